-- What follows for dropped characters: they are past, they stand apart from what came after the floor, and no run needs them.
use Rattle.std.proofs.Common.{◌≡◌, ℕ, zero, suc, ◌+◌, ◌-◌, ◌<◌, ◌≤◌, Bool, true, false, not, ◌&&◌, if◌then◌else◌, nat_lt, ◌==◌, List, [], ◌∷◌, ◌++◌, drop, filter, Option, Some, None, slice_get, refl, ap, subst, sym, ◌∙◌, inl, inr, arith}
use Rattle.std.specs.List.{AllByRecursion, list_all, list_any}
use Rattle.std.proofs.lemmas.Bool.{both_ways, and_parts, or_cases, or_left, or_right, cases_lt, eq-eqb, eqb-true, lt-ltb, ltb-true, leb-true, not-true}
use Rattle.plain_text.proofs.callers.ListLemmas.{AllByRecursion-take, AllByRecursion-weaker, filter_all}
use Rattle.std.proofs.lemmas.List.{map-id}
use Rattle.plain_edits.specs.History.{Tagged, Revision, edit, undo, History, head, revision_at, edit_group, group_of, is_undone, is_visible, IsTaggedBy}
use Rattle.plain_edits.specs.Place.{index_right_of, later_run}
use Rattle.plain_edits.specs.Edits.{is_edit_of}
use Rattle.plain_edits.specs.Collection.{is_based_from, IsAtRest, is_collected, is_dropped}
use Rattle.plain_edits.specs.HistorySteps.{is_edit, IsByEdits, IsWellFormed}
use Rattle.plain_edits.proofs.callers.CollectionLemmas.{all_has}
use Rattle.plain_edits.proofs.callers.PlaceLemmas.{later_run_is_later}
use Rattle.plain_edits.proofs.callers.WellFormedLemmas.{dropped_is_hidden}
use Rattle.collection_laws.specs.MayForget.{edit_base, base_of, is_guarded, AreGuarded, IsInsertedFirst, MayForget}
use Rattle.collection_laws.specs.Left.{is_kept, without_dropped}
use Rattle.collection_laws.proofs.ListLemmas.{all_both, upto, run, IsFirst, AreApart, Goes, upto-sifted, run-sifted, AllByRecursion-drop, AreApart-take}
use Rattle.collection_laws.proofs.GuardLemmas.{base_of-le}

-- ---- items of a list by their indices

pub slice_get-drop : {X : Type 0} (k n m : ℕ) (xs : List X) → k ≡ n + m → slice_get (drop n xs) m ≡ slice_get xs k
slice_get-drop k zero m xs sum = (let same : m ≡ k = omega (arith, sum) in ap (slice_get xs) same)
slice_get-drop k (suc n) m [] sum = refl
slice_get-drop zero (suc n) m (x ∷ xs) sum = absurd (omega (arith, sum))
slice_get-drop (suc k) (suc n) m (x ∷ xs) sum = slice_get-drop k n m xs (omega (arith, sum))

list_any_there : {X : Type 0} (p : X → Bool) (n : ℕ) (xs : List X) (x : X) → slice_get xs n ≡ Some x → p x ≡ true → list_any p xs ≡ true
list_any_there p n [] x there passes = absurd (cc)
list_any_there p zero (y ∷ xs) x there passes = (let same : y ≡ x = cc in or_left (p y) (list_any p xs) (ap p same ∙ passes))
list_any_there p (suc n) (y ∷ xs) x there passes = or_right (p y) (list_any p xs) (list_any_there p n xs x there passes)

list_all_there : {X : Type 0} (p : X → Bool) (n : ℕ) (xs : List X) (x : X) → slice_get xs n ≡ Some x → list_all p xs ≡ true → p x ≡ true
list_all_there p n [] x there all = absurd (cc)
list_all_there p zero (y ∷ xs) x there all = (let same : y ≡ x = cc in ap p (sym same) ∙ (and_parts (p y) (list_all p xs) all).0)
list_all_there p (suc n) (y ∷ xs) x there all = list_all_there p n xs x there (and_parts (p y) (list_all p xs) all).1

-- ---- edits, before and after the floor

-- an edit after the floor is one of its group there
pub edit_after : (revisions : List Revision) (floor rev : ℕ) → floor < rev → is_edit (revision_at revisions rev) ≡ true →
    list_any (is_edit_of (group_of revisions rev)) (drop floor revisions) ≡ true
edit_after revisions floor zero past is = absurd (both_ways false refl is)
edit_after revisions floor (suc n) past is = by (slice_get revisions n) refl is
  where
    by : (r : Option Revision) → slice_get revisions n ≡ r → is_edit r ≡ true →
        list_any (is_edit_of (edit_group (slice_get revisions n))) (drop floor revisions) ≡ true
    by None there is_one = absurd (both_ways false refl is_one)
    by (Some (undo groups)) there is_one = absurd (both_ways false refl is_one)
    by (Some (edit base group priority author)) there is_one =
        list_any_there (is_edit_of (edit_group (slice_get revisions n))) (n - floor) (drop floor revisions) (edit base group priority author)
        (slice_get-drop n floor (n - floor) revisions (omega (arith, past)) ∙ there)
        (eq-eqb group (edit_group (slice_get revisions n)) (sym (ap edit_group there)))

-- an edit of a collected group is not after the floor
pub edit_by_floor : (history : History) (rev : ℕ) → IsWellFormed history → is_edit (revision_at history.revisions rev) ≡ true →
    is_collected history rev ≡ true → rev ≤ history.floor
edit_by_floor history rev formed is collected =
    elim (cases_lt history.floor rev) [
      | inl past ↦
          let rest = all_has (IsAtRest history history.floor) history.collected (group_of history.revisions rev) formed.at_rest collected in
          absurd (both_ways _ rest.is_over (edit_after history.revisions history.floor rev past is))
      | inr before ↦ before
    ]

-- the base of an edit after the floor is from the floor on
base_from_floor : (history : History) (rev : ℕ) → IsWellFormed history → history.floor < rev → is_edit (revision_at history.revisions rev) ≡ true →
    history.floor ≤ base_of history.revisions rev
base_from_floor history zero formed past is = absurd (omega (arith, past))
base_from_floor history (suc n) formed past is = by (slice_get history.revisions n) refl is
  where
    by : (r : Option Revision) → slice_get history.revisions n ≡ r → is_edit r ≡ true →
        history.floor ≤ edit_base (slice_get history.revisions n)
    by None there is_one = absurd (both_ways false refl is_one)
    by (Some (undo groups)) there is_one = absurd (both_ways false refl is_one)
    by (Some (edit base group priority author)) there is_one =
        subst (λ r. history.floor ≤ edit_base r) (sym there)
        (leb-true history.floor base
        (list_all_there (is_based_from history.floor) (n - history.floor) (drop history.floor history.revisions) (edit base group priority author)
        (slice_get-drop n history.floor (n - history.floor) history.revisions (omega (arith, past)) ∙ there) formed.clean))

-- ---- each character of a history that may forget

pub record IsOurs (history : History) (tagged : Tagged) : Type 0 where
  pub tags : IsTaggedBy (head history) tagged
  pub by : IsByEdits history.revisions tagged
  pub first : IsInsertedFirst tagged
  pub hidden : (rev : ℕ) → history.floor ≤ rev → rev ≤ head history → is_dropped history tagged ≡ true →
      is_visible history.revisions rev tagged ≡ false

pub all_ours : (history : History) → MayForget history → AllByRecursion (IsOurs history) history.characters
all_ours history forgets =
    each history.characters forgets.formed.sound forgets.formed.by_edits forgets.first
    (λ rev low high. dropped_is_hidden history rev forgets.formed low high)
  where
    each : (xs : List Tagged) → AllByRecursion (IsTaggedBy (head history)) xs → AllByRecursion (IsByEdits history.revisions) xs →
        AllByRecursion IsInsertedFirst xs →
        ((rev : ℕ) → history.floor ≤ rev → rev ≤ head history →
        AllByRecursion (λ tagged. is_dropped history tagged ≡ true → is_visible history.revisions rev tagged ≡ false) xs) →
        AllByRecursion (IsOurs history) xs
    each [] tags by first hidden = tt
    each (x ∷ xs) tags by first hidden = (
      record { tags = tags.0; by = by.0; first = first.0; hidden = λ rev low high. (hidden rev low high).0 },
      each xs tags.1 by.1 first.1 (λ rev low high. (hidden rev low high).1),
    )

-- a character was loaded, or inserted by an edit
pub by_edit : (history : History) (tagged : Tagged) → IsByEdits history.revisions tagged → 0 < tagged.inserted →
    is_edit (revision_at history.revisions tagged.inserted) ≡ true
by_edit history tagged by later =
    elim (or_cases (tagged.inserted == 0) (is_edit (revision_at history.revisions tagged.inserted)) by.inserted) [
      | inl none ↦ absurd (omega (arith, later, eqb-true tagged.inserted 0 none))
      | inr is ↦ is
    ]

-- A DROPPED CHARACTER was inserted by the floor
pub dropped_is_old : (history : History) (tagged : Tagged) → IsWellFormed history → IsOurs history tagged → is_dropped history tagged ≡ true →
    tagged.inserted ≤ history.floor
dropped_is_old history tagged formed ours dropped =
    elim (or_cases (is_collected history tagged.inserted && is_undone history.revisions (head history) tagged.inserted) (list_any lasts tagged.deleted) dropped) [
      | inl inserted ↦
          elim (cases_lt 0 tagged.inserted) [
            | inl later ↦ edit_by_floor history tagged.inserted formed (by_edit history tagged ours.by later) (and_parts _ _ inserted).0
            | inr loaded ↦ omega (arith, loaded)
          ]
      | inr deleted ↦ deletion tagged.deleted ours.by.deleted ours.first deleted
    ]
  where
    lasts : ℕ → Bool
    lasts rev = is_collected history rev && not (is_undone history.revisions (head history) rev)

    deletion : (revs : List ℕ) → AllByRecursion (λ rev. is_edit (revision_at history.revisions rev) ≡ true) revs →
        AllByRecursion (λ rev. tagged.inserted < rev) revs →
        list_any (λ rev. is_collected history rev && not (is_undone history.revisions (head history) rev)) revs ≡ true →
        tagged.inserted ≤ history.floor
    deletion [] edits first some = absurd (both_ways false refl some)
    deletion (rev ∷ revs) edits first some =
        elim (or_cases (lasts rev) (list_any lasts revs) some) [
          | inl here ↦ omega (arith, first.0, edit_by_floor history rev formed edits.0 (and_parts _ _ here).0)
          | inr later ↦ deletion revs edits.1 first.1 later
        ]

pub all_dropped_old : (history : History) → MayForget history →
    AllByRecursion (λ tagged. is_dropped history tagged ≡ true → tagged.inserted ≤ history.floor) history.characters
all_dropped_old history forgets =
    AllByRecursion-weaker (IsOurs history) (λ tagged. is_dropped history tagged ≡ true → tagged.inserted ≤ history.floor)
    (λ tagged ours. dropped_is_old history tagged forgets.formed ours) history.characters (all_ours history forgets)

-- so what came after the floor is kept, and what some revision from the floor on shows
pub later_is_kept : (history : History) (tagged : Tagged) → IsWellFormed history → IsOurs history tagged → history.floor < tagged.inserted →
    is_kept history tagged ≡ true
later_is_kept history tagged formed ours later = by (is_dropped history tagged) refl
  where
    by : (b : Bool) → is_dropped history tagged ≡ b → not b ≡ true
    by true dropped = absurd (omega (arith, later, dropped_is_old history tagged formed ours dropped))
    by false is = refl

pub shown_is_kept : (history : History) (tagged : Tagged) (rev : ℕ) → IsOurs history tagged → history.floor ≤ rev → rev ≤ head history →
    is_visible history.revisions rev tagged ≡ true → is_kept history tagged ≡ true
shown_is_kept history tagged rev ours low high seen = by (is_dropped history tagged) refl
  where
    by : (b : Bool) → is_dropped history tagged ≡ b → not b ≡ true
    by true dropped = absurd (both_ways _ (ours.hidden rev low high dropped) seen)
    by false is = refl

-- ---- a dropped character stands apart

module _ (history : History) (forgets : MayForget history) (base : ℕ) (low : history.floor ≤ base) where
  abbrev came_after : Tagged → Bool
  came_after tagged = nat_lt base tagged.inserted

  apart : (xs : List Tagged) → AllByRecursion (IsOurs history) xs → AreGuarded history.revisions xs → AreApart (is_kept history) came_after xs
  apart [] ours guarded = tt
  apart (x ∷ xs) ours guarded = (λ later. first (ltb-true base x.inserted later), apart xs ours.1 guarded.1)
    where
      first : base < x.inserted → IsFirst (is_kept history) xs
      first later = at xs ours.1 (guarded.0 is)
        where
          is : is_edit (revision_at history.revisions x.inserted) ≡ true
          is = by_edit history x ours.0.by (omega (arith, later))

          from : history.floor ≤ base_of history.revisions x.inserted
          from = base_from_floor history x.inserted forgets.formed (omega (arith, later, low)) is

          at : (zs : List Tagged) → AllByRecursion (IsOurs history) zs → is_guarded history.revisions (base_of history.revisions x.inserted) zs ≡ true →
              IsFirst (is_kept history) zs
          at [] all guard = tt
          at (z ∷ zs) all guard = by (nat_lt (base_of history.revisions x.inserted) z.inserted) refl guard
            where
              by : (b : Bool) → nat_lt (base_of history.revisions x.inserted) z.inserted ≡ b →
                  (if b then is_guarded history.revisions (base_of history.revisions x.inserted) zs
                  else is_visible history.revisions (base_of history.revisions x.inserted) z) ≡ true → is_kept history z ≡ true
              by true newer holds =
                  later_is_kept history z forgets.formed all.0
                  (omega (arith, from, ltb-true (base_of history.revisions x.inserted) z.inserted newer))
              by false older holds =
                  shown_is_kept history z (base_of history.revisions x.inserted) all.0 from
                  (omega (arith, base_of-le history.revisions x.inserted forgets.formed.based, ours.0.tags.inserted)) holds

  pub AreApart-dropped : AreApart (is_kept history) came_after history.characters
  AreApart-dropped = apart history.characters (all_ours history forgets) forgets.guarded

-- NO DROPPED CHARACTER stands directly right of one that came after the floor
pub dropped_stands_apart : (history : History) (left : List Tagged) (tagged next : Tagged) (right : List Tagged) → MayForget history →
    history.characters ≡ left ++ tagged ∷ next ∷ right → history.floor < tagged.inserted → is_dropped history next ≡ false
dropped_stands_apart history left tagged next right forgets cut later =
    not-true _ (at left (subst (AreApart (is_kept history) (λ t. nat_lt history.floor t.inserted)) cut
    (AreApart-dropped history forgets history.floor (omega arith))))
  where
    at : (xs : List Tagged) → AreApart (is_kept history) (λ t. nat_lt history.floor t.inserted) (xs ++ tagged ∷ next ∷ right) → is_kept history next ≡ true
    at [] apart = apart.0 (lt-ltb history.floor tagged.inserted later)
    at (x ∷ xs) apart = at xs apart.1

-- ---- THE RUN that decides an insertion place is the same without the dropped characters

pub later_run-without_dropped : (history : History) (base gap : ℕ) → MayForget history → history.floor ≤ base → base ≤ head history →
    later_run (without_dropped history) base gap ≡ later_run history base gap
later_run-without_dropped history base gap forgets low high =
    ap (λ xs. run after (upto seen gap xs)) (sym (map-id (filter kept history.characters))) ∙
    ap (run after) (upto-sifted kept (λ x. x) seen seen gap history.characters (AllByRecursion-weaker (IsOurs history) (Goes kept (λ x. x) seen seen)
    (λ x ours. record { stays = shown_is_kept history x base ours low high; alike = λ _. refl }) history.characters ours)) ∙
    run-sifted kept (λ x. x) after after (upto seen gap history.characters)
    (AreApart-take kept after (index_right_of history base gap) history.characters (AreApart-dropped history forgets base low))
    (AllByRecursion-take (Goes kept (λ x. x) after after) (index_right_of history base gap) history.characters
    (AllByRecursion-weaker (IsOurs history) (Goes kept (λ x. x) after after)
    (λ x is. record { stays = λ later. later_is_kept history x forgets.formed is (omega (arith, low, ltb-true base x.inserted later)); alike = λ _. refl })
    history.characters ours)) ∙
    map-id (filter kept (later_run history base gap)) ∙
    filter_all kept (later_run history base gap)
    (AllByRecursion-weaker (λ x. IsOurs history x × (base < x.inserted)) (λ x. kept x ≡ true)
    (λ x both. later_is_kept history x forgets.formed both.0 (omega (arith, low, both.1))) (later_run history base gap)
    (all_both (IsOurs history) (λ x. base < x.inserted) (later_run history base gap)
    (AllByRecursion-drop (IsOurs history) _ left (AllByRecursion-take (IsOurs history) (index_right_of history base gap) history.characters ours))
    (later_run_is_later history base gap)))
  where
    kept : Tagged → Bool
    kept = is_kept history

    seen : Tagged → Bool
    seen = is_visible history.revisions base

    after : Tagged → Bool
    after tagged = nat_lt base tagged.inserted

    left : List Tagged
    left = upto seen gap history.characters

    ours : AllByRecursion (IsOurs history) history.characters
    ours = all_ours history forgets
