-- Where an edit changed matches.
use Rattle.std.proofs.Common.{◌≡◌, inl, inr, ℕ, zero, suc, ◌+◌, ◌-◌, ◌<◌, ◌≤◌, List, [], ◌∷◌, ◌++◌, length, map, take, drop, Option, Some, None, refl, ap, ap₂, sym, subst, ◌∙◌, arith, append_assoc, length-drop, length-take, take-append-drop}
use Rattle.std.specs.List.{AllByRecursion}
use Rattle.std.proofs.lemmas.Bool.{cases_lt}
use Rattle.std.proofs.lemmas.List.{take-take}
use Rattle.plain_text.specs.declared.run.Run.{Run}
use Rattle.plain_edits.specs.declared.delta.UnitDelta.{UnitDelta}
use Rattle.delta_core.specs.UnitStep.{steps_of}
use Rattle.find_core.specs.Matches.{folded, matches_of}
use Rattle.find_core.proofs.ForCallers.{AreMatchesFrom-same, matches_of-are}
use Rattle.match_index.specs.declared.edit.Edit.{Edit}
use Rattle.match_index.specs.declared.edit.Rest.{Rest}
use Rattle.match_index.specs.declared.search.Walked.{Walked}
use Rattle.match_index.specs.Found.{Found, runs_in}
use Rattle.match_index.specs.Strides.{runs_behind, span}
use Rattle.match_index.specs.Changed.{moved, Changes, IsChangedIn, StandAround}
use Rattle.match_index.specs.Inner.{strides_under, AreMatchesUpTo, IsWalked}
use Rattle.match_index.specs.Edited.{after_of, HasBegun, HasMet, IsBegun, IsChanged, IsEdit, IsEditing, IsMet, IsSearched}
use Rattle.match_index.proofs.EditLemmas.{long-drop, runs-parted, starts-at, StartsFrom}
use Rattle.match_index.proofs.EditedLemmas.{edit-long, joined-ordered, parts-from}
use Rattle.match_index.proofs.KeptLemmas.{keeps-steps}
use Rattle.match_index.proofs.StrideLemmas.{length-runs, runs_behind-append, span-parted}

-- ---- where runs of strides stand

-- none ends behind what they have in all
ends-by : (len gap to : ℕ) (strides : List ℕ) → gap + span strides ≤ to → AllByRecursion (λ (own : Run). own.end ≤ to) (runs_behind len gap strides)
ends-by len gap to [] le = tt
ends-by len gap to (stride ∷ strides) le = (omega (arith, le), ends-by len (gap + stride) to strides (omega (arith, le)))

next-starts : (len gap from stride : ℕ) (strides : List ℕ) → AllByRecursion (λ own. len ≤ own) strides → from ≤ gap + stride - len →
    StartsFrom from (runs_behind len (gap + stride) strides)
next-starts len gap from stride [] long le = tt
next-starts len gap from stride (next ∷ strides) long le = omega (arith, long.0, le)

-- where the first starts at a gap or after it, none starts before it
stand-in : (len gap from to : ℕ) (strides : List ℕ) → AllByRecursion (λ own. len ≤ own) strides → StartsFrom from (runs_behind len gap strides) →
    gap + span strides ≤ to → AllByRecursion (λ (own : Run). (from ≤ own.start) × (own.end ≤ to)) (runs_behind len gap strides)
stand-in len gap from to [] long starts le = tt
stand-in len gap from to (stride ∷ strides) long starts le = (
  (starts, omega (arith, le)),
  stand-in len (gap + stride) from to strides long.1 (next-starts len gap from stride strides long.1 starts) (omega (arith, le)),
)

-- what follows for each holds of each
all-follow : (P Q : Run → Type 0) (runs : List Run) → ((run : Run) → P run → Q run) → AllByRecursion P runs → AllByRecursion Q runs
all-follow P Q [] follows all = tt
all-follow P Q (run ∷ runs) follows all = (follows run all.0, all-follow P Q runs follows all.1)

-- matches up to a gap stand before it
up-in : (chars text : List ℕ) (from to : ℕ) (runs : List Run) → AreMatchesUpTo chars text from runs to →
    AllByRecursion (λ (own : Run). (from ≤ own.start) × (own.end ≤ to)) runs × (from ≤ to)
up-in chars text from to [] are = (tt, are.0)
up-in chars text from to (run ∷ runs) are =
    let rest = up-in chars text run.end to runs are.1 in (
      (
        (are.0.after, rest.1),
        all-follow (λ (own : Run). (run.end ≤ own.start) × (own.end ≤ to)) (λ (own : Run). (from ≤ own.start) × (own.end ≤ to)) runs
            (λ own in_it. (omega (arith, are.0.after, are.0.end, in_it.0), in_it.1)) rest.0,
      ),
      omega (arith, are.0.after, are.0.end, rest.1),
    )

long-take : (len n : ℕ) (strides : List ℕ) → AllByRecursion (λ own. len ≤ own) strides → AllByRecursion (λ own. len ≤ own) (take n strides)
long-take len zero strides long = tt
long-take len (suc n) [] long = tt
long-take len (suc n) (stride ∷ strides) long = (long.0, long-take len n strides long.1)

-- ---- the old matches from one index up to another

abbrev pub between : ℕ → ℕ → List ℕ → List ℕ
between i j strides = drop i (take j strides)

taken-parted : (i j : ℕ) (strides : List ℕ) → i ≤ j → take j strides ≡ take i strides ++ between i j strides
taken-parted i j strides le =
    sym (take-append-drop i (take j strides)) ∙ ap (λ (xs : List ℕ). xs ++ between i j strides) (take-take i j strides le)

span-between : (i j : ℕ) (strides : List ℕ) → i ≤ j → span (take i strides) + span (between i j strides) ≡ span (take j strides)
span-between i j strides le =
    omega (arith, ap span (take-take i j strides le), span-parted (take j strides) i)

runs-in-three : (len i j end last : ℕ) (strides : List ℕ) → i ≤ j → end ≡ span (take i strides) → last ≡ span (take j strides) →
    runs_behind len 0 strides ≡
    runs_behind len 0 (take i strides) ++ (runs_behind len end (between i j strides) ++ runs_behind len last (drop j strides))
runs-in-three len i j end last strides le end_is last_is =
    let first : 0 + span (take i strides) ≡ end = omega (arith, end_is) in
    let second : 0 + span (take j strides) ≡ last = omega (arith, last_is) in
    runs-parted len strides j ∙
    ap₂ (λ (xs : List ℕ) (n : ℕ). runs_behind len 0 xs ++ runs_behind len n (drop j strides)) (taken-parted i j strides le) second ∙
    ap (λ (rs : List Run). rs ++ runs_behind len last (drop j strides))
    (runs_behind-append len 0 (take i strides) (between i j strides) ∙
    ap (λ (n : ℕ). runs_behind len 0 (take i strides) ++ runs_behind len n (between i j strides)) first) ∙
    append_assoc (runs_behind len 0 (take i strides)) (runs_behind len end (between i j strides)) (runs_behind len last (drop j strides))

between-starts : (len i j end from : ℕ) (strides : List ℕ) → i ≤ j → end ≡ span (take i strides) →
    (i < length strides → from + len ≤ span (take (i + 1) strides)) → StartsFrom from (runs_behind len end (between i j strides))
between-starts len i j end from strides le end_is next =
    let here : 0 + span (take i (take j strides)) ≡ end = omega (arith, end_is, ap span (take-take i j strides le)) in
    subst (λ (n : ℕ). StartsFrom from (runs_behind len n (between i j strides))) here
    (starts-at len 0 (take j strides) i from (λ more.
    let long = length-take j strides in
    let one : suc i ≡ i + 1 = omega arith in
    omega (
      arith,
      next (omega (arith, more, long)),
      ap span (take-take (suc i) j strides (omega (arith, more, long))),
      ap (λ (n : ℕ). span (take n strides)) one,
    )))

between-none : (i j : ℕ) (strides : List ℕ) → j ≡ i → between i j strides ≡ []
between-none i j strides same = nothing (between i j strides) (omega (arith, same, length-drop i (take j strides), length-take j strides))
  where
    nothing : (xs : List ℕ) → length xs ≡ 0 → xs ≡ []
    nothing [] none = refl
    nothing (x ∷ xs) none = absurd (omega (arith, none))

-- ---- what stays, goes, comes and is moved

module _ (before strides : List ℕ) (after : Found) (front old new : ℕ) (edit : IsEdit before strides after front old new) (index from start at : ℕ) (rest : Rest)
    (found : List ℕ) (begun : HasBegun strides after front index from start) (before_start : from ≤ start)
    (walked : AreMatchesUpTo (folded after.fold after.chars) (folded after.fold after.text) start (runs_behind (length after.chars) from found) at)
    (met : HasMet strides after old new at rest) where
  abbrev stay : List Run
  stay = runs_behind (length after.chars) 0 (take index strides)

  abbrev go : List Run
  go = runs_behind (length after.chars) from (between index rest.index strides)

  abbrev come : List Run
  come = runs_behind (length after.chars) from found

  abbrev move : List Run
  move = runs_behind (length after.chars) rest.end (drop rest.index strides)

  long : AllByRecursion (λ own. length after.chars ≤ own) strides
  long = edit-long before strides after front old new edit

  ordered : index ≤ rest.index
  ordered = joined-ordered before strides after front old new edit index from start at rest found begun before_start walked met

  were : runs_in (record after { text = before }) ≡ stay ++ (go ++ move)
  were = sym edit.has.are ∙ runs-in-three (length after.chars) index rest.index from rest.end strides ordered begun.ends met.is.ends

  are : runs_in after ≡ stay ++ (come ++ map (moved old new) move)
  are =
      AreMatchesFrom-same (folded after.fold after.chars) (folded after.fold after.text) 0 (runs_in after) (stay ++ (come ++ map (moved old new) move))
      (matches_of-are after.text after.chars after.fold edit.some)
      (parts-from before strides after front old new edit index from start at rest found begun before_start walked met)

  -- around a run from a gap on by which the first stay, up to one at which the search has come to the old ones or before
  around : (run : Run) → from ≤ run.start → run.end + old ≤ rest.gap + new →
      AllByRecursion (λ own. (run.start ≤ own.start) × (own.end + new ≤ run.end + old)) go →
      AllByRecursion (λ own. (run.start ≤ own.start) × (own.end ≤ run.end)) come → StandAround old new run stay go come move
  around run first last gone inside = record {
    left = ends-by (length after.chars) 0 run.start (take index strides) (omega (arith, first, begun.ends));
    gone = gone;
    inside = inside;
    right =
        all-follow (λ (own : Run). (rest.gap ≤ own.start) × (own.end ≤ rest.end + span (drop rest.index strides))) (λ (own : Run). run.end + old ≤ own.start + new) move
        (λ own in_it. omega (arith, in_it.0, last))
        (stand-in (length after.chars) rest.end rest.gap (rest.end + span (drop rest.index strides)) (drop rest.index strides)
        (long-drop (length after.chars) strides rest.index long) moves-from (omega arith));
  }
    where
      moves-from : StartsFrom rest.gap move
      moves-from =
          let here : 0 + span (take rest.index strides) ≡ rest.end = omega (arith, met.is.ends) in
          let one : suc rest.index ≡ rest.index + 1 = omega arith in
          subst (λ (n : ℕ). StartsFrom rest.gap (runs_behind (length after.chars) n (drop rest.index strides))) here
          (starts-at (length after.chars) 0 strides rest.index rest.gap (λ more. omega (arith, met.is.starts more, ap (λ (n : ℕ). span (take n strides)) one)))

  goes : AllByRecursion (λ own. (start ≤ own.start) × (own.end + new ≤ at + old)) go
  goes =
      all-follow (λ (own : Run). (start ≤ own.start) × (own.end ≤ rest.end)) (λ (own : Run). (start ≤ own.start) × (own.end + new ≤ at + old)) go
      (λ own in_it. (in_it.0, omega (arith, in_it.1, met.is.by_then, met.meets)))
      (stand-in (length after.chars) from start rest.end (between index rest.index strides)
      (long-drop (length after.chars) (take rest.index strides) index (long-take (length after.chars) rest.index strides long))
      (between-starts (length after.chars) index rest.index from start strides ordered begun.ends begun.next)
      (omega (arith, begun.ends, met.is.ends, span-between index rest.index strides ordered)))

  comes : AllByRecursion (λ own. (start ≤ own.start) × (own.end ≤ at)) come
  comes = (up-in (folded after.fold after.chars) (folded after.fold after.text) start at come walked).0

  go-long : length go ≡ length (between index rest.index strides)
  go-long = length-runs (length after.chars) from (between index rest.index strides)

  come-long : length come ≡ length found
  come-long = length-runs (length after.chars) from found

  empty : (runs : List Run) → length runs ≡ 0 → runs ≡ []
  empty [] none = refl
  empty (run ∷ runs) none = absurd (omega (arith, none))

  pub none-changed : rest.index ≡ index → length found ≡ 0 → Changes front old new (runs_in (record after { text = before })) (runs_in after) None
  none-changed same none = record {
    stay = stay;
    go = go;
    come = come;
    move = move;
    was = were;
    is = are;
    around = (
      no-go,
      no-come,
      around (record { start = front; end = new }) begun.by_then (omega (arith, met.past))
          (subst (AllByRecursion (λ own. (front ≤ own.start) × (own.end + new ≤ new + old))) (sym no-go) tt)
          (subst (AllByRecursion (λ own. (front ≤ own.start) × (own.end ≤ new))) (sym no-come) tt),
    );
  }
    where
      no-go : go ≡ []
      no-go = ap (runs_behind (length after.chars) from) (between-none index rest.index strides same)

      no-come : come ≡ []
      no-come = empty come (omega (arith, come-long, none))

  pub some-changed : (rest.index ≡ index → 0 < length found) →
      Changes front old new (runs_in (record after { text = before })) (runs_in after) (Some (record { start = start; end = at }))
  some-changed some = record {
    stay = stay;
    go = go;
    come = come;
    move = move;
    was = were;
    is = are;
    around = (
      counted,
      begun.near,
      omega (arith, met.meets, met.past),
      around (record { start = start; end = at }) before_start (omega (arith, met.meets)) goes comes,
    );
  }
    where
      counted : 0 < length go + length come
      counted = elim (cases_lt index rest.index) [
        | inl less ↦
            omega (
              arith,
              less,
              go-long,
              length-drop index (take rest.index strides),
              length-take rest.index strides,
              met.is.inside,
            )
        | inr past ↦ omega (arith, come-long, some (omega (arith, past, ordered)))
      ]

-- the same of an edit
pub searched-changed : (edit : Edit) (index : ℕ) (walked : Walked) (rest : Rest) (changed : Option Run) → IsEditing edit →
    IsBegun edit index walked.from walked.start → IsWalked (after_of edit) walked → IsMet edit walked.at rest → IsSearched index walked rest changed →
    IsChanged edit changed
searched-changed edit index walked rest None is begun search met said =
    none-changed edit.before.now (strides_under edit.strides.now) (after_of edit) edit.front edit.old edit.new is index walked.from walked.start walked.at rest
    (strides_under walked.strides) begun search.before search.are met said.0 said.1
searched-changed edit index walked rest (Some run) is begun search met said =
    subst (λ (r : Run). IsChanged edit (Some r)) (sym said.0)
    (some-changed edit.before.now (strides_under edit.strides.now) (after_of edit) edit.front edit.old edit.new is index walked.from walked.start walked.at rest
    (strides_under walked.strides) begun search.before search.are met said.1)

-- where nothing is looked for
pub none-sought : (units : UnitDelta) (found : Found) (after : List ℕ) → found.chars ≡ [] → IsChangedIn units found after None
none-sought units found after none = record {
  front = 0;
  back = 0;
  keeps = keeps-steps (steps_of units);
  changes = record {
    stay = [];
    go = [];
    come = [];
    move = [];
    was = ap (λ (chars : List ℕ). matches_of found.text chars found.fold) none;
    is = ap (λ (chars : List ℕ). matches_of after chars found.fold) none;
    around = (refl, refl, record { left = tt; gone = tt; inside = tt; right = tt });
  };
}
