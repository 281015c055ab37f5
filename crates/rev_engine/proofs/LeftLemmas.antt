-- What is left of a history: its edits are the history's, it may be collected where the history may, and a change of it is one of the history.
use Rattle.std.proofs.Common.{◌≡◌, ℕ, zero, suc, ◌+◌, ◌<◌, ◌≤◌, Bool, true, false, not, ◌&&◌, ◌||◌, ◌==◌, if◌then◌else◌, inl, inr, ◌⊎◌, cond, List, [], ◌∷◌, length, map, filter, take, drop, slice_get, Some, refl, ap, ap₂, sym, ◌∙◌, arith}
use Rattle.std.specs.List.{list_any, range_with_len}
use Rattle.std.proofs.lemmas.Bool.{both_ways, cases_lt, eqb-true, eq-eqb, or_cases, or_left, or_right}
use Rattle.std.proofs.lemmas.List.Folds.{list_any-append}
use Rattle.subset_runs.specs.Subset.{items_outside}
use Rattle.plain_text.specs.Numbers.{has}
use Rattle.plain_text.proofs.callers.ListLemmas.{AllByRecursion-weaker}
use Rattle.plain_edits.specs.History.{Tagged, Revision, edit, undo, edit_group, History, head, revision_at, group_of, undone, text_at}
use Rattle.plain_edits.specs.HistorySteps.{is_edit, IsWellFormed}
use Rattle.plain_edits.specs.Edits.{is_edit_of}
use Rattle.plain_edits.specs.Change.{change_adds, change_keeps}
use Rattle.plain_edits.specs.declared.delta.UnitDelta.{UnitDelta}
use Rattle.plain_edits.specs.Collection.{is_collected, is_dropped, IsAtRest, MayCollect}
use Rattle.delta_core.specs.Units.{text_after}
use Rattle.collection_laws.specs.MayForget.{MayForget}
use Rattle.collection_laws.specs.Left.{is_kept, left_of, settled, settled_rev, settled_revision}
use Rattle.collection_laws.proofs.ForCallers.{IsForgotten, StaysAs, change_adds-left, change_keeps-left, drop-left, head-left, is_clean-left, revision_at-after, revision_at-before, settled_rev-none, settles, text_at-left, undone-left}
use Rattle.rev_list.specs.WithoutText.{without_character, without_text}
use Rattle.rev_rebase.specs.Rebase.{characters_of}
use Rattle.rev_engine.specs.declared.edit.Change.{Change}
use Rattle.rev_engine.specs.Engine.{IsChange, IsSince}

-- ---- the edits of a group

module _ (h : History) (group : ℕ) where
  there : (revisions : List Revision) (n : ℕ) → is_edit (slice_get revisions n) ≡ true → edit_group (slice_get revisions n) ≡ group →
      list_any (is_edit_of group) revisions ≡ true
  there [] n is own = absurd (both_ways false refl is)
  there (edit base g priority author ∷ revisions) zero is own = or_left (g == group) _ (eq-eqb g group own)
  there (undo groups ∷ revisions) zero is own = absurd (both_ways false refl is)
  there (revision ∷ revisions) (suc n) is own = or_right (is_edit_of group revision) _ (there revisions n is own)

  edit_in : (g : History) (rev : ℕ) → 0 < rev → is_edit (revision_at g.revisions rev) ≡ true → group_of g.revisions rev ≡ group →
      list_any (is_edit_of group) g.revisions ≡ true
  edit_in g zero some is own = absurd (omega (arith, some))
  edit_in g (suc n) some is own = there g.revisions n is own

  -- what stands up to the floor as an edit of itself is one
  an_edit : (rev : ℕ) → 0 < rev → rev ≤ h.floor → settled_rev h rev ≡ rev → is_edit (revision_at h.revisions rev) ≡ true
  an_edit rev some below same = by (is_edit (revision_at h.revisions rev)) refl
    where
      by : (b : Bool) → is_edit (revision_at h.revisions rev) ≡ b → is_edit (revision_at h.revisions rev) ≡ true
      by true is = is
      by false is =
          absurd (omega (arith, some, same, settled_rev-none h rev below (ap (λ b. b && not (is_collected h rev)) is)))

  -- a revision up to the floor that says the group is an edit of it
  settled_there : (rev : ℕ) → 0 < rev → rev ≤ h.floor → is_edit_of group (settled_revision h rev) ≡ true → list_any (is_edit_of group) h.revisions ≡ true
  settled_there rev some below = by (settled_rev h rev == rev) refl
    where
      by : (b : Bool) → (settled_rev h rev == rev) ≡ b →
          is_edit_of group (if b then edit 0 (group_of h.revisions rev) 0 0 else undo (undone h.revisions h.floor)) ≡ true →
          list_any (is_edit_of group) h.revisions ≡ true
      by true same own =
          edit_in h rev some (an_edit rev some below (eqb-true (settled_rev h rev) rev same)) (eqb-true (group_of h.revisions rev) group own)
      by false same own = absurd (both_ways false refl own)

  range_there : (from n : ℕ) → 0 < from → from + n ≤ h.floor + 1 →
      list_any (is_edit_of group) (map (settled_revision h) (range_with_len from n)) ≡ true → list_any (is_edit_of group) h.revisions ≡ true
  range_there from zero some sum is = absurd (both_ways false refl is)
  range_there from (suc n) some sum is =
      elim (or_cases (is_edit_of group (settled_revision h from)) (list_any (is_edit_of group) (map (settled_revision h) (range_with_len (from + 1) n))) is) [
        | inl here ↦ settled_there from some (omega (arith, sum)) here
        | inr later ↦ range_there (from + 1) n (omega arith) (omega (arith, sum)) later
      ]

  drop_there : (k : ℕ) (revisions : List Revision) → list_any (is_edit_of group) (drop k revisions) ≡ true → list_any (is_edit_of group) revisions ≡ true
  drop_there zero revisions is = is
  drop_there (suc k) [] is = is
  drop_there (suc k) (revision ∷ revisions) is = or_right (is_edit_of group revision) _ (drop_there k revisions is)

  -- a group that has an edit in what is left has one
  pub has_edit-left : list_any (is_edit_of group) (left_of h).revisions ≡ true → list_any (is_edit_of group) h.revisions ≡ true
  has_edit-left is =
      elim (or_cases (list_any (is_edit_of group) (map (settled_revision h) (range_with_len 1 h.floor)))
      (list_any (is_edit_of group) (drop h.floor h.revisions))
      (sym (list_any-append (is_edit_of group) (map (settled_revision h) (range_with_len 1 h.floor)) (drop h.floor h.revisions)) ∙ is)) [
        | inl settled ↦ range_there 1 h.floor (omega arith) (omega arith) settled
        | inr later ↦ drop_there h.floor h.revisions later
      ]

  -- where an edit of the group stands
  found : (revisions : List Revision) → list_any (is_edit_of group) revisions ≡ true →
      (n : ℕ) × ((is_edit (slice_get revisions n) ≡ true) × (edit_group (slice_get revisions n) ≡ group))
  found [] is = absurd (both_ways false refl is)
  found (edit base g priority author ∷ revisions) is =
      elim (or_cases (g == group) (list_any (is_edit_of group) revisions) is) [
        | inl own ↦ (0, (refl, eqb-true g group own))
        | inr later ↦ let rest = found revisions later in (suc rest.0, rest.1)
      ]
  found (undo groups ∷ revisions) is = let rest = found revisions is in (suc rest.0, rest.1)

  -- a group that has an edit and is not collected has one in what is left
  pub has_edit-of_left : IsWellFormed h → has h.collected group ≡ false → list_any (is_edit_of group) h.revisions ≡ true →
      list_any (is_edit_of group) (left_of h).revisions ≡ true
  has_edit-of_left formed kept is =
      let at = found h.revisions is in
      by (suc at.0) at.1.1 (settles h (suc at.0) formed at.1.0)
    where
      by : (rev : ℕ) → group_of h.revisions rev ≡ group → (StaysAs h rev) ⊎ (IsForgotten h rev) →
          list_any (is_edit_of group) (left_of h).revisions ≡ true
      by rev own (inl stays) = edit_in (left_of h) (settled_rev h rev) stays.some stays.is (stays.group ∙ own)
      by rev own (inr goes) = absurd (both_ways (has h.collected group) kept (ap (has h.collected) (sym own) ∙ goes.is))

  -- the same up to a revision
  found_by : (revisions : List Revision) (rev : ℕ) → list_any (is_edit_of group) (take rev revisions) ≡ true →
      (n : ℕ) × ((n < rev) × ((is_edit (slice_get revisions n) ≡ true) × (edit_group (slice_get revisions n) ≡ group)))
  found_by revisions zero is = absurd (both_ways false refl is)
  found_by [] (suc rev) is = absurd (both_ways false refl is)
  found_by (edit base g priority author ∷ revisions) (suc rev) is =
      elim (or_cases (g == group) (list_any (is_edit_of group) (take rev revisions)) is) [
        | inl own ↦ (0, (omega arith, (refl, eqb-true g group own)))
        | inr later ↦ let rest = found_by revisions rev later in (suc rest.0, (omega (arith, rest.1.0), rest.1.1))
      ]
  found_by (undo groups ∷ revisions) (suc rev) is = let rest = found_by revisions rev is in (suc rest.0, (omega (arith, rest.1.0), rest.1.1))

  there_by : (revisions : List Revision) (n rev : ℕ) → n < rev → is_edit (slice_get revisions n) ≡ true → edit_group (slice_get revisions n) ≡ group →
      list_any (is_edit_of group) (take rev revisions) ≡ true
  there_by revisions n zero within is own = absurd (omega (arith, within))
  there_by [] n (suc rev) within is own = absurd (both_ways false refl is)
  there_by (edit base g priority author ∷ revisions) zero (suc rev) within is own = or_left (g == group) _ (eq-eqb g group own)
  there_by (undo groups ∷ revisions) zero (suc rev) within is own = absurd (both_ways false refl is)
  there_by (revision ∷ revisions) (suc n) (suc rev) within is own =
      or_right (is_edit_of group revision) _ (there_by revisions n rev (omega (arith, within)) is own)

  edit_by : (g : History) (at rev : ℕ) → 0 < at → at ≤ rev → is_edit (revision_at g.revisions at) ≡ true → group_of g.revisions at ≡ group →
      list_any (is_edit_of group) (take rev g.revisions) ≡ true
  edit_by g zero rev some within is own = absurd (omega (arith, some))
  edit_by g (suc n) rev some within is own = there_by g.revisions n rev (omega (arith, within)) is own

  -- an edit of what is left is the history's
  own_edit : IsWellFormed h → (at : ℕ) → 0 < at → is_edit (revision_at (left_of h).revisions at) ≡ true →
      (is_edit (revision_at h.revisions at) ≡ true) × (group_of (left_of h).revisions at ≡ group_of h.revisions at)
  own_edit formed at some is =
      elim (cases_lt h.floor at) [
        | inl past ↦
            let same = revision_at-after h formed.floor at past in
            (ap is_edit (sym same) ∙ is, ap edit_group same)
        | inr below ↦ by below (settled_rev h at == at) refl
      ]
    where
      says : (b : Bool) → (settled_rev h at == at) ≡ b → at ≤ h.floor →
          revision_at (left_of h).revisions at ≡ Some (if b then edit 0 (group_of h.revisions at) 0 0 else undo (undone h.revisions h.floor))
      says b same below =
          revision_at-before h formed.floor at some below ∙
          ap (λ b. Some (if b then edit 0 (group_of h.revisions at) 0 0 else undo (undone h.revisions h.floor))) same

      by : at ≤ h.floor → (b : Bool) → (settled_rev h at == at) ≡ b →
          (is_edit (revision_at h.revisions at) ≡ true) × (group_of (left_of h).revisions at ≡ group_of h.revisions at)
      by below true same =
          (an_edit at some below (eqb-true (settled_rev h at) at same), ap edit_group (says true same below))
      by below false same = absurd (both_ways false refl (sym (ap is_edit (says false same below)) ∙ is))

  -- a group that has an edit in what is left by a revision has one by then
  pub has_edit_by-left : IsWellFormed h → (rev : ℕ) → list_any (is_edit_of group) (take rev (left_of h).revisions) ≡ true →
      list_any (is_edit_of group) (take rev h.revisions) ≡ true
  has_edit_by-left formed rev some =
      let at = found_by (left_of h).revisions rev some in
      let own = own_edit formed (suc at.0) (omega arith) at.1.1.0 in
      edit_by h (suc at.0) rev (omega arith) (omega (arith, at.1.0)) own.0 (sym own.1 ∙ at.1.1.1)

  -- one that is not collected, and has none in what is left by a revision from the floor on, has none by then
  pub none_by-left : IsWellFormed h → has h.collected group ≡ false → (rev : ℕ) → h.floor ≤ rev →
      list_any (is_edit_of group) (take rev (left_of h).revisions) ≡ false → list_any (is_edit_of group) (take rev h.revisions) ≡ false
  none_by-left formed kept rev low none = by (list_any (is_edit_of group) (take rev h.revisions)) refl
    where
      settled_by : (at : ℕ) → at ≤ rev → group_of h.revisions at ≡ group → (StaysAs h at) ⊎ (IsForgotten h at) → ⊥
      settled_by at within own (inl stays) =
          let below : settled_rev h at ≤ rev =
          elim stays.beside [ inl same ↦ omega (arith, same, within) | inr parts ↦ omega (arith, parts.0, low) ] in
          both_ways (list_any (is_edit_of group) (take rev (left_of h).revisions)) none
          (edit_by (left_of h) (settled_rev h at) rev stays.some below stays.is (stays.group ∙ own))
      settled_by at within own (inr goes) = both_ways (has h.collected group) kept (ap (has h.collected) (sym own) ∙ goes.is)

      by : (b : Bool) → list_any (is_edit_of group) (take rev h.revisions) ≡ b → list_any (is_edit_of group) (take rev h.revisions) ≡ false
      by true some =
          let at = found_by h.revisions rev some in
          absurd (settled_by (suc at.0) (omega (arith, at.1.0)) at.1.1.1 (settles h (suc at.0) formed at.1.1.0))
      by false none = none

  -- a group that has an edit or is collected has one in what is left, or is collected
  pub known-left : IsWellFormed h → (list_any (is_edit_of group) h.revisions || has h.collected group) ≡ true →
      (list_any (is_edit_of group) (left_of h).revisions || has h.collected group) ≡ true
  known-left formed known = by (has h.collected group) refl
    where
      by : (gone : Bool) → has h.collected group ≡ gone → (list_any (is_edit_of group) (left_of h).revisions || has h.collected group) ≡ true
      by true gone = or_right (list_any (is_edit_of group) (left_of h).revisions) (has h.collected group) gone
      by false kept =
          elim (or_cases (list_any (is_edit_of group) h.revisions) (has h.collected group) known) [
            | inl own ↦
                or_left (list_any (is_edit_of group) (left_of h).revisions) (has h.collected group) (has_edit-of_left formed kept own)
            | inr gone ↦ absurd (both_ways (has h.collected group) kept gone)
          ]

-- ---- the collections

-- a group at rest in what is left is at rest
IsAtRest-of_left : (h : History) → MayForget h → (floor group : ℕ) → h.floor ≤ floor → IsAtRest (left_of h) floor group → IsAtRest h floor group
IsAtRest-of_left h forgets floor group low rest =
    let within = forgets.formed.floor in
    let same : head (left_of h) ≡ head h = head-left h within in
    record {
      is_over = ap (list_any (is_edit_of group)) (sym (drop-left h within floor low)) ∙ rest.is_over;
      is_settled = λ rev from to.
          ap (λ set. has set group) (sym (undone-left h within rev (omega (arith, low, from)))) ∙ rest.is_settled rev from (omega (arith, to, same)) ∙
          (ap (λ n. has (undone (left_of h).revisions n) group) same ∙ ap (λ set. has set group) (undone-left h within (head h) within));
    }

-- a collection of what is left may come
pub MayCollect-of_left : (h : History) (floor : ℕ) (groups : List ℕ) → MayForget h → MayCollect (left_of h) floor groups → MayCollect h floor groups
MayCollect-of_left h floor groups forgets may =
    record {
      rises = may.rises;
      known = omega (arith, may.known, head-left h forgets.formed.floor);
      clean = sym (is_clean-left h forgets floor may.rises) ∙ may.clean;
      at_rest =
          AllByRecursion-weaker (IsAtRest (left_of h) floor) (IsAtRest h floor) (λ group. IsAtRest-of_left h forgets floor group may.rises) groups may.at_rest;
    }

module _ (h : History) where
  filter-textless : (xs : List Tagged) → filter (is_kept (without_text h)) (map without_character xs) ≡ map without_character (filter (is_kept h) xs)
  filter-textless [] = refl
  filter-textless (x ∷ xs) = by (is_kept h x) (filter-textless xs)
    where
      by : (b : Bool) → filter (is_kept (without_text h)) (map without_character xs) ≡ map without_character (filter (is_kept h) xs) →
          cond b (without_character x ∷ filter (is_kept (without_text h)) (map without_character xs)) (filter (is_kept (without_text h)) (map without_character xs)) ≡
          map without_character (cond b (x ∷ filter (is_kept h) xs) (filter (is_kept h) xs))
      by true rest = ap (λ ys. without_character x ∷ ys) rest
      by false rest = rest

  settled-textless : (xs : List Tagged) → map (settled (without_text h)) (map without_character xs) ≡ map without_character (map (settled h) xs)
  settled-textless [] = refl
  settled-textless (x ∷ xs) = ap (λ ys. without_character (settled h x) ∷ ys) (settled-textless xs)

  -- what is left does not depend on the text
  pub left_of-textless : left_of (without_text h) ≡ without_text (left_of h)
  left_of-textless =
      ap (λ (characters : List Tagged). record (left_of h) { characters = characters })
      (ap (map (settled (without_text h))) (filter-textless h.characters) ∙ settled-textless (filter (is_kept h) h.characters))

  outside_kept : (xs : List Tagged) →
      items_outside (map (is_dropped h) xs) (map (λ t. t.character) xs) ≡ map (λ t. t.character) (map (settled h) (filter (is_kept h) xs))
  outside_kept [] = refl
  outside_kept (x ∷ xs) = by (is_dropped h x) (outside_kept xs)
    where
      by : (b : Bool) → items_outside (map (is_dropped h) xs) (map (λ t. t.character) xs) ≡ map (λ t. t.character) (map (settled h) (filter (is_kept h) xs)) →
          items_outside (b ∷ map (is_dropped h) xs) (x.character ∷ map (λ t. t.character) xs) ≡
          map (λ t. t.character) (map (settled h) (cond (not b) (x ∷ filter (is_kept h) xs) (filter (is_kept h) xs)))
      by true rest = rest
      by false rest = ap (λ cs. x.character ∷ cs) rest

  -- the characters of what is left are those that are not dropped
  pub characters-left : items_outside (map (is_dropped h) h.characters) (characters_of h) ≡ characters_of (left_of h)
  characters-left = outside_kept h.characters

-- ---- the changes

-- the edit since a revision of what is left is that of the history
pub IsSince-left : (h : History) (rev : ℕ) (units : UnitDelta) → MayForget h → h.floor ≤ rev → rev ≤ head h → IsSince (left_of h) rev units →
    IsSince h rev units
IsSince-left h rev units forgets low high is =
    let to : head (left_of h) ≡ head h = head-left h forgets.formed.floor in
    let now : text_at (left_of h) (head (left_of h)) ≡ text_at h (head h) =
    ap (text_at (left_of h)) to ∙ text_at-left h forgets (head h) forgets.formed.floor (omega arith) in
    record {
      canonical = is.canonical;
      base = is.base ∙ ap length (text_at-left h forgets rev low high);
      kept = λ index.
          is.kept index ∙ ap (λ n. change_keeps (left_of h) rev n index) to ∙
          change_keeps-left h forgets rev (head h) index low high forgets.formed.floor (omega arith);
      added = λ gap.
          is.added gap ∙ ap (λ n. change_adds (left_of h) rev n gap) to ∙
          change_adds-left h forgets rev (head h) gap low high forgets.formed.floor (omega arith);
      leads = ap (text_after units) (sym (text_at-left h forgets rev low high)) ∙ is.leads ∙ now;
    }

module _ (before after : History) (forgets : MayForget before) (later : MayForget after) (floor : after.floor ≤ head before) (rises : head before ≤ head after) where
  text-before : text_at (left_of before) (head (left_of before)) ≡ text_at before (head before)
  text-before =
      ap (text_at (left_of before)) (head-left before forgets.formed.floor) ∙
      text_at-left before forgets (head before) forgets.formed.floor (omega arith)

  text-after : text_at (left_of after) (head (left_of after)) ≡ text_at after (head after)
  text-after =
      ap (text_at (left_of after)) (head-left after later.formed.floor) ∙ text_at-left after later (head after) later.formed.floor (omega arith)

  -- a change of what is left is the change of the history
  pub IsChange-left : (change : Change) → IsChange (left_of before) (left_of after) change → IsChange before after change
  IsChange-left change is =
      let from : head (left_of before) ≡ head before = head-left before forgets.formed.floor in
      let to : head (left_of after) ≡ head after = head-left after later.formed.floor in
      record {
        rev = is.rev ∙ to;
        canonical = is.canonical;
        base = is.base ∙ ap length text-before;
        kept = λ index.
            is.kept index ∙ ap₂ (λ m n. change_keeps (left_of after) m n index) from to ∙
            change_keeps-left after later (head before) (head after) index floor rises later.formed.floor (omega arith);
        added = λ gap.
            is.added gap ∙ ap₂ (λ m n. change_adds (left_of after) m n gap) from to ∙
            change_adds-left after later (head before) (head after) gap floor rises later.formed.floor (omega arith);
        leads = ap (text_after change.units) (sym text-before) ∙ is.leads ∙ text-after;
      }
