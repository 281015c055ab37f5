-- The history up to a revision after a clean floor, and the next record after it, where some groups are collected at that floor.
use Rattle.std.proofs.Common.{◌≡◌, ℕ, ◌-◌, ◌<◌, ◌≤◌, Bool, true, false, cond, ◌||◌, ◌==◌, nat_le, List, [], ◌∷◌, ◌++◌, length, map, take, drop, filter, fold, Option, Some, None, inl, inr, refl, ap, ap₂, sym, ◌∙◌, arith}
use Rattle.std.specs.Prelude.{◌⊎◌}
use Rattle.std.specs.List.{AllByRecursion, list_all, list_any}
use Rattle.std.proofs.lemmas.Bool.{and_parts, both_ways, cases_lt, eq-eqb, leb-true, or_cases}
use Rattle.std.proofs.lemmas.List.{drop-append-le, length-take-le, take-append-drop, take-take}
use Rattle.std.proofs.lemmas.List.Folds.{list_all-append, list_any-append}
use Rattle.plain_text.specs.Numbers.{has, with_number, IsRising}
use Rattle.plain_text.proofs.callers.ListLemmas.{AllByRecursion-take}
use Rattle.plain_text.proofs.callers.NumberLemmas.{has-with_numbers}
use Rattle.plain_edits.specs.History.{Tagged, Revision, edit, undo, History, head, revision_at, edit_group, group_of, undone, undone_after, is_undone, is_there, IsTaggedBy, IsSound}
use Rattle.plain_edits.specs.Edits.{is_edit_of}
use Rattle.plain_edits.specs.Collection.{collected_at, is_based_from, is_collected, IsAtRest, MayCollect}
use Rattle.plain_edits.specs.HistorySteps.{is_edit, HasRisingSet, IsByEdits}
use Rattle.plain_edits.proofs.callers.CollectionLemmas.{all_has}
use Rattle.plain_edits.proofs.callers.HistoryLemmas.{revision_at-append}
use Rattle.collection_laws.proofs.ForCallers.{HasFloor, HasRisingSet-undone_by, edit_after}
use Rattle.rev_list.specs.declared.step.RevStep.{RevStep}
use Rattle.rev_list.specs.declared.step.RevStep.TheVariants.{Edit, Undo}
use Rattle.rev_list.specs.declared.records.RevRecord.{RevRecord}
use Rattle.rev_list.specs.Edit.{after_revision}
use Rattle.rev_list.specs.Kept.{IsOpen, Follows, turned_by}
use Rattle.rev_list.specs.Until.{history_until, tagged_until, revision_of, IsRecordAt, MayFollow}
use Rattle.rev_list.proofs.ForCallers.{clean-take, revisions-after}
use Rattle.rev_collect.specs.Later.{collected_until}
use Rattle.rev_collect.proofs.JoinLemmas.{open_at}
use Rattle.rev_collect.proofs.StepLemmas.{Allows}

-- ---- lists

last_of : {X : Type 0} (P : X → Type 0) (xs : List X) (y : X) → AllByRecursion P (xs ++ y ∷ []) → P y
last_of P [] y all = all.0
last_of P (x ∷ xs) y all = last_of P xs y all.1

or_parts : (a b : Bool) → (a || b) ≡ false → (a ≡ false) × (b ≡ false)
or_parts true b none = absurd cc
or_parts false b none = (refl, none)

above_filter : (n m : ℕ) (ds : List ℕ) → AllByRecursion (λ d. n < d) ds → AllByRecursion (λ d. n < d) (filter (λ d. nat_le d m) ds)
above_filter n m [] all = tt
above_filter n m (d ∷ ds) all = by (nat_le d m) (above_filter n m ds all.1)
  where
    by : (b : Bool) → AllByRecursion (λ d. n < d) (filter (λ d. nat_le d m) ds) →
        AllByRecursion (λ d. n < d) (cond b (d ∷ filter (λ d. nat_le d m) ds) (filter (λ d. nat_le d m) ds))
    by true rest = (all.0, rest)
    by false rest = rest

rising_filter : (m : ℕ) (ds : List ℕ) → IsRising ds → IsRising (filter (λ d. nat_le d m) ds)
rising_filter m [] up = tt
rising_filter m (d ∷ ds) up = by (nat_le d m) (rising_filter m ds up.1)
  where
    by : (b : Bool) → IsRising (filter (λ d. nat_le d m) ds) → IsRising (cond b (d ∷ filter (λ d. nat_le d m) ds) (filter (λ d. nat_le d m) ds))
    by true rest = (above_filter d m ds up.0, rest)
    by false rest = rest

-- what holds of each number that is there and by a bound
all_filter : (P Q : ℕ → Type 0) (m : ℕ) → ((d : ℕ) → d ≤ m → P d → Q d) → (ds : List ℕ) → AllByRecursion P ds → AllByRecursion Q (filter (λ d. nat_le d m) ds)
all_filter P Q m each [] all = tt
all_filter P Q m each (d ∷ ds) all = by (nat_le d m) refl (all_filter P Q m each ds all.1)
  where
    by : (b : Bool) → nat_le d m ≡ b → AllByRecursion Q (filter (λ d. nat_le d m) ds) →
        AllByRecursion Q (cond b (d ∷ filter (λ d. nat_le d m) ds) (filter (λ d. nat_le d m) ds))
    by true is rest = (each d (leb-true d m is) all.0, rest)
    by false is rest = rest

-- what holds of each character as it was
all_until : (P Q : Tagged → Type 0) (n : ℕ) → ((t : Tagged) → t.inserted ≤ n → P t → Q (tagged_until n t)) → (xs : List Tagged) →
    AllByRecursion P xs → AllByRecursion Q (map (tagged_until n) (filter (is_there n) xs))
all_until P Q n each [] all = tt
all_until P Q n each (x ∷ xs) all = by (is_there n x) refl (all_until P Q n each xs all.1)
  where
    by : (b : Bool) → is_there n x ≡ b → AllByRecursion Q (map (tagged_until n) (filter (is_there n) xs)) →
        AllByRecursion Q (map (tagged_until n) (cond b (x ∷ filter (is_there n) xs) (filter (is_there n) xs)))
    by true is rest = (each x (leb-true x.inserted n is) all.0, rest)
    by false is rest = rest

no_group : (r : Option Revision) → is_edit r ≡ false → edit_group r ≡ 0
no_group None is = refl
no_group (Some (edit base group priority author)) is = absurd cc
no_group (Some (undo groups)) is = refl

-- ---- some of the revisions

module _ (revisions : List Revision) (n : ℕ) (high : n ≤ length revisions) where
  abbrev some : List Revision
  some = take n revisions

  pub length_some : length some ≡ n
  length_some = length-take-le n revisions high

  revision_at-some : (rev : ℕ) → rev ≤ n → revision_at some rev ≡ revision_at revisions rev
  revision_at-some rev le =
      sym (revision_at-append some (drop n revisions) rev (omega (arith, le, length_some))) ∙
      ap (λ rs. revision_at rs rev) (take-append-drop n revisions)

  undone-some : (at : ℕ) → at ≤ n → undone some at ≡ undone revisions at
  undone-some at le = ap (undone_after []) (take-take at n revisions le)

  -- no edit of a group is among them after a floor, where none is among all
  none-some : (group floor : ℕ) → floor ≤ n → list_any (is_edit_of group) (drop floor revisions) ≡ false → list_any (is_edit_of group) (drop floor some) ≡ false
  none-some group floor low none =
      (or_parts (list_any (is_edit_of group) (drop floor some)) (list_any (is_edit_of group) (drop n revisions))
      (sym (list_any-append (is_edit_of group) (drop floor some) (drop n revisions)) ∙
      ap (list_any (is_edit_of group)) (sym (drop-append-le floor some (drop n revisions) (omega (arith, low, length_some))) ∙
      ap (drop floor) (take-append-drop n revisions)) ∙ none)).0

-- ---- a collection

module _ (history : History) (floor : ℕ) (groups : List ℕ) (may : MayCollect history floor groups)
    (edits : AllByRecursion (IsByEdits history.revisions) history.characters) (sets : AllByRecursion HasRisingSet history.revisions)
    (free : AllByRecursion (IsOpen history.collected) history.revisions) where
  abbrev then_of : ℕ → History
  then_of n = collected_until history floor groups n

  -- a collected group is one of these, or was before
  has_either : (group : ℕ) → has (fold with_number history.collected groups) group ≡ true → (has history.collected group ≡ true) ⊎ (has groups group ≡ true)
  has_either group is =
      or_cases (has history.collected group) (has groups group) (sym (has-with_numbers history.collected groups group) ∙ is)

  rests : (group : ℕ) → has groups group ≡ true → IsAtRest history floor group
  rests group is = all_has (IsAtRest history floor) groups group may.at_rest is

  module _ (n : ℕ) (low : floor ≤ n) (high : n ≤ head history) where
    pub head-then : head (then_of n) ≡ n
    head-then = length_some history.revisions n high

    pub sound-then : IsSound (then_of n)
    sound-then =
        rw head-then
        (all_until (λ t. IsByEdits history.revisions t) (IsTaggedBy n) n
        (λ t there is. record {
          inserted = there;
          deleted = all_filter (λ d. is_edit (revision_at history.revisions d) ≡ true) (λ d. d ≤ n) n (λ d le edits_it. le) t.deleted is.deleted;
        })
        history.characters edits)

    pub edits-then : AllByRecursion (IsByEdits (then_of n).revisions) (then_of n).characters
    edits-then =
        all_until (IsByEdits history.revisions) (IsByEdits (take n history.revisions)) n
        (λ t there is. record {
          inserted = ap (λ r. t.inserted == 0 || is_edit r) (revision_at-some history.revisions n high t.inserted there) ∙ is.inserted;
          deleted =
              all_filter (λ d. is_edit (revision_at history.revisions d) ≡ true) (λ d. is_edit (revision_at (take n history.revisions) d) ≡ true) n
              (λ d le edits_it. ap is_edit (revision_at-some history.revisions n high d le) ∙ edits_it) t.deleted is.deleted;
          rising = rising_filter n t.deleted is.rising;
        })
        history.characters edits

    pub floor-then : HasFloor (then_of n)
    floor-then = record {
      floor = omega (arith, low, head-then);
      over = λ rev edits_it collected. by rev edits_it (has_either (group_of (take n history.revisions) rev) collected);
      loaded = λ at. (HasRisingSet-undone_by (take n history.revisions) at (AllByRecursion-take HasRisingSet n history.revisions sets)).1;
    }
      where
        by : (rev : ℕ) → is_edit (revision_at (take n history.revisions) rev) ≡ true →
            (has history.collected (group_of (take n history.revisions) rev) ≡ true) ⊎ (has groups (group_of (take n history.revisions) rev) ≡ true) → rev ≤ floor
        by rev edits_it (inl was) =
            absurd (both_ways (has history.collected (group_of (take n history.revisions) rev))
            (open_at history.collected (take n history.revisions) rev (AllByRecursion-take (IsOpen history.collected) n history.revisions free) edits_it) was)
        by rev edits_it (inr is) =
            elim (cases_lt floor rev) [
              | inl past ↦
                  let group = group_of (take n history.revisions) rev in
                  absurd (both_ways (list_any (is_edit_of group) (drop floor (take n history.revisions)))
                  (none-some history.revisions n high group floor low (rests group is).is_over) (edit_after (take n history.revisions) floor rev past edits_it))
              | inr le ↦ le
            ]

  -- ---- the next record

  module _ (rev : ℕ) (low : floor < rev) (high : rev ≤ head history) (r : RevRecord) (is : IsRecordAt history rev r) where
    abbrev pub before : ℕ
    before = rev - 1

    pub low_before : floor ≤ before
    low_before = omega (arith, low)

    pub high_before : before ≤ head history
    high_before = omega (arith, high)

    collected-step : (h : History) (step : RevStep) → collected_at (after_revision h step) floor groups ≡ after_revision (collected_at h floor groups) step
    collected-step h (Edit e) = refl
    collected-step h (Undo others) = refl

    pub now-is : then_of rev ≡ after_revision (then_of before) r.step
    now-is = ap (λ (h : History). collected_at h floor groups) is.next ∙ collected-step (history_until history before) r.step

    abbrev last : Revision
    last = revision_of (then_of before) r.step

    revisions-now : take rev history.revisions ≡ take before history.revisions ++ last ∷ []
    revisions-now = ap (λ (h : History). h.revisions) now-is ∙ revisions-after (then_of before) r.step

    last-set : HasRisingSet last
    last-set = last_of HasRisingSet (take before history.revisions) last (rw revisions-now at (AllByRecursion-take HasRisingSet rev history.revisions sets))

    last-free : IsOpen history.collected last
    last-free =
        last_of (IsOpen history.collected) (take before history.revisions) last
        (rw revisions-now at (AllByRecursion-take (IsOpen history.collected) rev history.revisions free))

    -- the revisions from the floor on end with it
    drop-now : drop floor (take rev history.revisions) ≡ drop floor (take before history.revisions) ++ last ∷ []
    drop-now =
        ap (drop floor) revisions-now ∙
        drop-append-le floor (take before history.revisions) (last ∷ []) (omega (arith, low_before, length_some history.revisions before high_before))

    last-other : (group : ℕ) → has groups group ≡ true → is_edit_of group last ≡ false
    last-other group there =
        (or_parts (is_edit_of group last) false
        (or_parts (list_any (is_edit_of group) (drop floor (take before history.revisions))) (list_any (is_edit_of group) (last ∷ []))
        (sym (list_any-append (is_edit_of group) (drop floor (take before history.revisions)) (last ∷ [])) ∙ ap (list_any (is_edit_of group)) (sym drop-now) ∙
        none-some history.revisions rev high group floor (omega (arith, low)) (rests group there).is_over)).1).0

    last-from : is_based_from floor last ≡ true
    last-from =
        (and_parts (is_based_from floor last) true
        (and_parts (list_all (is_based_from floor) (drop floor (take before history.revisions))) (list_all (is_based_from floor) (last ∷ []))
        (sym (list_all-append (is_based_from floor) (drop floor (take before history.revisions)) (last ∷ [])) ∙ ap (list_all (is_based_from floor)) (sym drop-now) ∙
        clean-take history.revisions rev floor (omega (arith, low, length_some history.revisions rev high)) may.clean)).1).0

    -- what is undone of a collected group stays
    undone-stays : (q : ℕ) → q ≤ before → has (fold with_number history.collected groups) (group_of history.revisions q) ≡ true →
        has (undone history.revisions rev) (group_of history.revisions q) ≡ has (undone history.revisions before) (group_of history.revisions q)
    undone-stays q le collected = by (has_either (group_of history.revisions q) collected)
      where
        group : ℕ
        group = group_of history.revisions q

        by : (has history.collected (group_of history.revisions q) ≡ true) ⊎ (has groups (group_of history.revisions q) ≡ true) →
            has (undone history.revisions rev) (group_of history.revisions q) ≡ has (undone history.revisions before) (group_of history.revisions q)
        by (inr is_now) =
            (rests (group_of history.revisions q) is_now).is_settled rev (omega (arith, low)) high ∙
            sym ((rests (group_of history.revisions q) is_now).is_settled before low_before high_before)
        by (inl was) = at_edit (is_edit (revision_at history.revisions q)) refl
          where
            at_edit : (b : Bool) → is_edit (revision_at history.revisions q) ≡ b →
                has (undone history.revisions rev) (group_of history.revisions q) ≡ has (undone history.revisions before) (group_of history.revisions q)
            at_edit true edits_it =
                absurd (both_ways (has history.collected (group_of history.revisions q)) (open_at history.collected history.revisions q free edits_it) was)
            at_edit false none =
                let loaded : group_of history.revisions q ≡ 0 = no_group (revision_at history.revisions q) none in
                ap (has (undone history.revisions rev)) loaded ∙ (HasRisingSet-undone_by history.revisions rev sets).1 ∙
                sym (ap (has (undone history.revisions before)) loaded ∙ (HasRisingSet-undone_by history.revisions before sets).1)

    leaves-now : (q : ℕ) → q ≤ head (then_of before) → is_collected (then_of before) q ≡ true →
        is_undone (take before history.revisions ++ last ∷ []) (length (take before history.revisions ++ last ∷ [])) q ≡
        is_undone (take before history.revisions) (length (take before history.revisions)) q
    leaves-now q le collected =
        let within : q ≤ before = omega (arith, le, head-then before low_before high_before) in
        let group_is : group_of (take before history.revisions) q ≡ group_of history.revisions q =
        ap edit_group (revision_at-some history.revisions before high_before q within) in
        ap (λ rs. is_undone rs (length rs) q) (sym revisions-now) ∙
        ap₂ (λ set g. has set g)
        (ap (undone (take rev history.revisions)) (length_some history.revisions rev high) ∙ undone-some history.revisions rev high rev (omega arith))
        (ap edit_group (revision_at-some history.revisions rev high q (omega (arith, within)))) ∙
        undone-stays q within (ap (has (fold with_number history.collected groups)) (sym group_is) ∙ collected) ∙
        sym (ap₂ (λ set g. has set g)
        (ap (undone (take before history.revisions)) (length_some history.revisions before high_before) ∙
        undone-some history.revisions before high_before before (omega arith)) group_is)

    -- the groups that are collected allow it
    pub allows-now : Allows (then_of before) (floor-then before low_before high_before).floor (sound-then before low_before high_before) r.step
    allows-now = by r.step last-free (λ group there. last-other group there) leaves-now
      where
        by : (step : RevStep) → IsOpen history.collected (revision_of (then_of before) step) →
            ((group : ℕ) → has groups group ≡ true → is_edit_of group (revision_of (then_of before) step) ≡ false) →
            ((q : ℕ) → q ≤ head (then_of before) → is_collected (then_of before) q ≡ true →
            is_undone (take before history.revisions ++ revision_of (then_of before) step ∷ []) (length (take before history.revisions ++ revision_of (then_of before) step ∷ [])) q ≡
            is_undone (take before history.revisions) (length (take before history.revisions)) q) →
            Allows (then_of before) (floor-then before low_before high_before).floor (sound-then before low_before high_before) step
        by (Edit e) closed other leaves = never (has (fold with_number history.collected groups) e.group) refl
          where
            never : (b : Bool) → has (fold with_number history.collected groups) e.group ≡ b → has (fold with_number history.collected groups) e.group ≡ false
            never false is_so = is_so
            never true is_so = one (has_either e.group is_so)
              where
                one : (has history.collected e.group ≡ true) ⊎ (has groups e.group ≡ true) → has (fold with_number history.collected groups) e.group ≡ false
                one (inl was) = absurd (both_ways (has history.collected e.group) closed was)
                one (inr there) = absurd (both_ways (e.group == e.group) (other e.group there) (eq-eqb e.group e.group refl))
        by (Undo others) closed other leaves = leaves

    pub may-now : MayFollow (then_of before) r
    may-now = by r.step is.follows is.turned last-from last-set allows-now
      where
        by : (step : RevStep) → Follows (history_until history before) step → r.turned ≡ turned_by (history_until history before) step →
            is_based_from floor (revision_of (then_of before) step) ≡ true → HasRisingSet (revision_of (then_of before) step) →
            Allows (then_of before) (floor-then before low_before high_before).floor (sound-then before low_before high_before) step →
            MayFollow (then_of before) (record { step = step; turned = r.turned })
        by (Edit e) follows turned from set allows = record {
          follows = record { grown = follows.grown; same_length = follows.same_length };
          turned = turned;
          from = from;
          is_open = allows;
          set = tt;
          has_number = omega (arith, head-then before low_before high_before, is.has_number, low);
        }
        by (Undo others) follows turned from set allows = record {
          follows = tt;
          turned = turned;
          from = refl;
          is_open = tt;
          set = set;
          has_number = omega (arith, head-then before low_before high_before, is.has_number, low);
        }
