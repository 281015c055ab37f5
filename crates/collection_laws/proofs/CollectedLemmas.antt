-- What is left after a collection is what is left, once more, after that collection of what was left.
use Rattle.std.proofs.Common.{◌≡◌, ℕ, zero, suc, ◌<◌, ◌≤◌, Bool, true, false, not, ◌&&◌, ◌||◌, if◌then◌else◌, nat_lt, ◌==◌, List, [], ◌∷◌, ◌++◌, map, drop, fold, Option, Some, refl, ap, ap₂, sym, ◌∙◌, inl, inr, arith}
use Rattle.std.specs.Prelude.{◌⊎◌}
use Rattle.std.specs.List.{AllByRecursion, list_all, list_any, range_with_len}
use Rattle.std.proofs.lemmas.Bool.{not-false, both_ways, and_parts, and_from, and_left, and_right, or_left, cases_lt, cases_eq, eqb-true, eq-eqb, ne_eqb, lt-ltb, ltb-true}
use Rattle.std.proofs.lemmas.List.{map-id}
use Rattle.plain_text.specs.Numbers.{has, with_number}
use Rattle.plain_text.proofs.callers.ListLemmas.{AllByRecursion-weaker, filter_all}
use Rattle.plain_text.proofs.callers.NumberLemmas.{has-with_numbers}
use Rattle.plain_edits.specs.History.{Tagged, Revision, edit, undo, History, head, revision_at, edit_group, group_of, undone, is_undone}
use Rattle.plain_edits.specs.Collection.{collected_at, MayCollect, is_collected, is_dropped}
use Rattle.plain_edits.specs.HistorySteps.{collects, is_edit}
use Rattle.plain_edits.proofs.callers.CollectionLemmas.{keeps-after_step, is_dropped-later}
use Rattle.collection_laws.specs.MayForget.{MayForget}
use Rattle.collection_laws.specs.Left.{is_kept, edits_group, last_edit, settled_rev, settled_deletions, settled, settled_revision, left_of}
use Rattle.collection_laws.proofs.ListLemmas.{sifted, sifted-yes, sifted-no, map-map-same, rising_same}
use Rattle.collection_laws.proofs.DroppedLemmas.{IsOurs, all_ours}
use Rattle.collection_laws.proofs.SettledLemmas.{last_edit-le, edits-last_edit, le-last_edit, settled_rev-after, settled_rev-by, settled_rev-none, settled_rev-last, has-settled_deletions, IsRising-settled_deletions, Passes, list_all-settled_deletions, drop-left, head-left, revision_at-after, revision_at-settled, revision_at-unsettled, undone-left}
use Rattle.collection_laws.proofs.ShownLemmas.{HasFloor-formed, no_zero, kept-inserted, kept-deleted, inserted-left, deleted-left}
use Rattle.collection_laws.proofs.LaterLemmas.{map-range_same}

not_any : (p : ℕ → Bool) (xs : List ℕ) → list_any p xs ≡ not (list_all (λ x. not (p x)) xs)
not_any p [] = refl
not_any p (x ∷ xs) = by (p x) (not_any p xs)
  where
    by : (b : Bool) → list_any p xs ≡ not (list_all (λ y. not (p y)) xs) → (b || list_any p xs) ≡ not (not b && list_all (λ y. not (p y)) xs)
    by true rest = refl
    by false rest = rest

-- sifting what was sifted
sifted-sifted : {X : Type 0} (k k' k'' : X → Bool) (s s' s'' : X → X) (xs : List X) →
    AllByRecursion (λ x. (k x ≡ false → k'' x ≡ false) × (k x ≡ true → (k' (s x) ≡ k'' x) × (s' (s x) ≡ s'' x))) xs →
    sifted k' s' (sifted k s xs) ≡ sifted k'' s'' xs
sifted-sifted k k' k'' s s' s'' [] each = refl
sifted-sifted {X} k k' k'' s s' s'' (x ∷ xs) each = by (k x) refl (k'' x) refl (sifted-sifted k k' k'' s s' s'' xs each.1)
  where
    by : (b : Bool) → k x ≡ b → (c : Bool) → k'' x ≡ c → sifted k' s' (sifted k s xs) ≡ sifted k'' s'' xs →
        sifted k' s' (sifted k s (x ∷ xs)) ≡ sifted k'' s'' (x ∷ xs)
    by true is true stays rest =
        ap (sifted k' s') (sifted-yes k s x xs is) ∙ sifted-yes k' s' (s x) (sifted k s xs) ((each.0.1 is).0 ∙ stays) ∙
        ap₂ (λ y ys. y ∷ ys) (each.0.1 is).1 rest ∙ sym (sifted-yes k'' s'' x xs stays)
    by true is false goes rest =
        ap (sifted k' s') (sifted-yes k s x xs is) ∙ sifted-no k' s' (s x) (sifted k s xs) ((each.0.1 is).0 ∙ goes) ∙ rest ∙
        sym (sifted-no k'' s'' x xs goes)
    by false is c _ rest =
        ap (sifted k' s') (sifted-no k s x xs is) ∙ rest ∙ sym (sifted-no k'' s'' x xs (each.0.0 is))

module _ (history : History) (floor : ℕ) (groups : List ℕ) (forgets : MayForget history) (may : MayCollect history floor groups) where
  abbrev left : History
  left = left_of history

  abbrev next : History
  next = collected_at history floor groups

  abbrev left_next : History
  left_next = collected_at left floor groups

  within : history.floor ≤ head history
  within = forgets.formed.floor

  -- an edit in what is left is one of the same group
  edits-before : (group rev : ℕ) → edits_group left.revisions group rev ≡ true → edits_group history.revisions group rev ≡ true
  edits-before group zero is = absurd (both_ways false refl is)
  edits-before group (suc n) is =
      elim (cases_lt history.floor (suc n)) [
        | inl past ↦ sym (ap (λ r. is_edit r && edit_group r == group) (revision_at-after history within (suc n) past)) ∙ is
        | inr below ↦
            elim (cases_eq (settled_rev history (suc n)) (suc n)) [
              | inl same ↦
                  and_from (is_edit (revision_at history.revisions (suc n))) (group_of history.revisions (suc n) == group)
                  (by below same (is_edit (revision_at history.revisions (suc n))) refl)
                  (sym (ap (λ r. is_edit r && edit_group r == group) (revision_at-settled history within (suc n) (omega arith) below same)) ∙ is)
              | inr other ↦
                  absurd (both_ways _ (ap (λ r. is_edit r && edit_group r == group) (revision_at-unsettled history within (suc n) (omega arith) below other)) is)
            ]
      ]
    where
      by : suc n ≤ history.floor → settled_rev history (suc n) ≡ suc n → (b : Bool) → is_edit (revision_at history.revisions (suc n)) ≡ b →
          is_edit (revision_at history.revisions (suc n)) ≡ true
      by below same true one = one
      by below same false none =
          absurd (omega (arith, same, settled_rev-none history (suc n) below (and_left _ (not (is_collected history (suc n))) none)))

  -- the last edit of a group that is not collected is settled as itself
  settled-last : (group rev : ℕ) → has history.collected group ≡ false → rev ≤ history.floor → edits_group history.revisions group rev ≡ true →
      last_edit history.revisions group history.floor ≡ rev → settled_rev history rev ≡ rev
  settled-last group rev is_open below is last =
      let parts = and_parts (is_edit (revision_at history.revisions rev)) (group_of history.revisions rev == group) is in
      let same : group_of history.revisions rev ≡ group = eqb-true (group_of history.revisions rev) group parts.1 in
      settled_rev-last history rev below
      (and_from (is_edit (revision_at history.revisions rev)) (not (is_collected history rev)) parts.0
      (ap (λ g. not (has history.collected g)) same ∙ ap not is_open)) ∙
      ap (λ g. last_edit history.revisions g history.floor) same ∙ last

  positive : (revisions : List Revision) (group rev : ℕ) → edits_group revisions group rev ≡ true → 0 < rev
  positive revisions group zero is = absurd (both_ways false refl is)
  positive revisions group (suc n) is = omega arith

  -- the last edit up to the new floor, if it is not after the old one, is the last up to there
  last-early : (group rev : ℕ) → edits_group history.revisions group rev ≡ true → last_edit history.revisions group floor ≡ rev → rev ≤ history.floor →
      last_edit history.revisions group history.floor ≡ rev
  last-early group rev is last below =
      let later : rev ≤ last_edit history.revisions group history.floor = le-last_edit history.revisions group rev history.floor is below in
      let some : 0 < last_edit history.revisions group history.floor = omega (arith, later, positive history.revisions group rev is) in
      omega (
        arith,
        later,
        last,
        le-last_edit history.revisions group (last_edit history.revisions group history.floor) floor
            (edits-last_edit history.revisions group history.floor some)
            (omega (arith, last_edit-le history.revisions group history.floor, may.rises)),
      )

  last_edit-left : (group : ℕ) → has history.collected group ≡ false → last_edit left.revisions group floor ≡ last_edit history.revisions group floor
  last_edit-left group is_open = omega (arith, below (cases_lt 0 (last_edit left.revisions group floor)), above (cases_lt 0 last))
    where
      last : ℕ
      last = last_edit history.revisions group floor

      below : ((0 < last_edit left.revisions group floor) ⊎ (last_edit left.revisions group floor ≤ 0)) → last_edit left.revisions group floor ≤ last
      below (inl some) =
          le-last_edit history.revisions group (last_edit left.revisions group floor) floor
          (edits-before group (last_edit left.revisions group floor) (edits-last_edit left.revisions group floor some))
          (last_edit-le left.revisions group floor)
      below (inr none) = omega (arith, none)

      there : 0 < last → edits_group history.revisions group last ≡ true → ((history.floor < last) ⊎ (last ≤ history.floor)) →
          edits_group left.revisions group last ≡ true
      there some is (inl past) = ap (λ r. is_edit r && edit_group r == group) (revision_at-after history within last past) ∙ is
      there some is (inr early) =
          ap (λ r. is_edit r && edit_group r == group)
          (revision_at-settled history within last some early
          (settled-last group last is_open early is (last-early group last is refl early))) ∙
          (and_parts (is_edit (revision_at history.revisions last)) (group_of history.revisions last == group) is).1

      above : ((0 < last) ⊎ (last ≤ 0)) → last ≤ last_edit left.revisions group floor
      above (inl some) =
          le-last_edit left.revisions group last floor
          (there some (edits-last_edit history.revisions group floor some) (cases_lt history.floor last)) (last_edit-le history.revisions group floor)
      above (inr none) = omega (arith, none)

  -- ---- a revision, settled twice

  -- what a revision up to the new floor is settled as, by what it says
  abbrev said : List Revision → Option Revision → ℕ
  said revisions r = if is_edit r && not (has next.collected (edit_group r)) then last_edit revisions (edit_group r) floor else 0

  was_open : (group : ℕ) → has next.collected group ≡ false → has history.collected group ≡ false
  was_open group is = by (has history.collected group) (has groups group) (sym (has-with_numbers history.collected groups group) ∙ is)
    where
      by : (a b : Bool) → (a || b) ≡ false → a ≡ false
      by true b same = same
      by false b same = refl

  said-left : (r : Option Revision) → said left.revisions r ≡ said history.revisions r
  said-left r = by (is_edit r) (has next.collected (edit_group r)) refl
    where
      by : (a b : Bool) → has next.collected (edit_group r) ≡ b →
          (if a && not b then last_edit left.revisions (edit_group r) floor else 0) ≡
          (if a && not b then last_edit history.revisions (edit_group r) floor else 0)
      by true true is = refl
      by true false is = last_edit-left (edit_group r) (was_open (edit_group r) is)
      by false b is = refl

  -- a revision that stands as it was
  settled_rev-same : (rev : ℕ) → revision_at left.revisions rev ≡ revision_at history.revisions rev → settled_rev left_next rev ≡ settled_rev next rev
  settled_rev-same rev same =
      elim (cases_lt floor rev) [
        | inl past ↦ settled_rev-after left_next rev past ∙ sym (settled_rev-after next rev past)
        | inr below ↦
            settled_rev-by left_next rev below ∙ ap (said left.revisions) same ∙ said-left (revision_at history.revisions rev) ∙
            sym (settled_rev-by next rev below)
      ]

  pub settled_rev-twice : (rev : ℕ) → settled_rev left_next (settled_rev history rev) ≡ settled_rev next rev
  settled_rev-twice rev =
      elim (cases_lt history.floor rev) [
        | inl past ↦ ap (settled_rev left_next) (settled_rev-after history rev past) ∙ settled_rev-same rev (revision_at-after history within rev past)
        | inr below ↦ by below (is_edit (revision_at history.revisions rev)) refl (is_collected history rev) refl
      ]
    where
      group : ℕ
      group = group_of history.revisions rev

      last : ℕ
      last = last_edit history.revisions group history.floor

      by : rev ≤ history.floor → (a : Bool) → is_edit (revision_at history.revisions rev) ≡ a → (b : Bool) → is_collected history rev ≡ b →
          settled_rev left_next (settled_rev history rev) ≡ settled_rev next rev
      by below true is false is_open =
          let stands = and_from (is_edit (revision_at history.revisions rev)) (not (is_collected history rev)) is (ap not is_open) in
          let edits = and_from (is_edit (revision_at history.revisions rev)) (group == group) is (eq-eqb group group refl) in
          let later : rev ≤ last = le-last_edit history.revisions group rev history.floor edits below in
          let some : 0 < last = omega (arith, later, positive history.revisions group rev edits) in
          let early : last ≤ history.floor = last_edit-le history.revisions group history.floor in
          let one : edits_group history.revisions group last ≡ true = edits-last_edit history.revisions group history.floor some in
          let same : group_of history.revisions last ≡ group =
          eqb-true (group_of history.revisions last) group (and_parts (is_edit (revision_at history.revisions last)) (group_of history.revisions last == group) one).1 in
          ap (settled_rev left_next) (settled_rev-last history rev below stands) ∙
          settled_rev-by left_next last (omega (arith, early, may.rises)) ∙
          ap (said left.revisions) (revision_at-settled history within last some early (settled-last group last is_open early one refl)) ∙
          said-left (Some (edit 0 (group_of history.revisions last) 0 0)) ∙
          ap (λ g. said history.revisions (Some (edit 0 g 0 0))) same ∙
          ap (λ a. if a && not (has next.collected group) then last_edit history.revisions group floor else 0) (sym is) ∙
          sym (settled_rev-by next rev (omega (arith, below, may.rises)))
      by below true is true collected =
          ap (settled_rev left_next) (settled_rev-none history rev below (and_right (is_edit (revision_at history.revisions rev)) _ (ap not collected))) ∙
          settled_rev-none left_next 0 (omega arith) refl ∙
          sym (settled_rev-none next rev (omega (arith, below, may.rises))
          (and_right (is_edit (revision_at history.revisions rev)) _ (ap not
          (has-with_numbers history.collected groups group ∙ or_left (has history.collected group) (has groups group) collected))))
      by below false none b _ =
          ap (settled_rev left_next) (settled_rev-none history rev below (and_left _ (not (is_collected history rev)) none)) ∙
          settled_rev-none left_next 0 (omega arith) refl ∙
          sym (settled_rev-none next rev (omega (arith, below, may.rises)) (and_left _ (not (is_collected next rev)) none))

  -- ---- the revisions

  settled_revision-twice : (rev : ℕ) → 0 < rev → rev ≤ floor → settled_revision next rev ≡ settled_revision left_next rev
  settled_revision-twice rev some below =
      elim (cases_lt history.floor rev) [
        | inl past ↦ same (revision_at-after history within rev past) (settled_rev-same rev (revision_at-after history within rev past))
        | inr early ↦
            elim (cases_eq (settled_rev history rev) rev) [
              | inl itself ↦
                  alike (settled_rev next rev) (settled_rev left_next rev)
                  (sym (settled_rev-twice rev) ∙ ap (settled_rev left_next) itself)
                  (sym (ap edit_group (revision_at-settled history within rev some early itself)))
              | inr other ↦
                  neither (settled_rev next rev) (settled_rev left_next rev) (λ is. other (again early is)) (λ is.
                  omega (
                    arith,
                    some,
                    sym is ∙ settled_rev-none left_next rev below
                        (and_left _ (not (is_collected left_next rev)) (ap is_edit (revision_at-unsettled history within rev some early other))),
                  ))
            ]
      ]
    where
      at_floor : undone history.revisions floor ≡ undone left.revisions floor
      at_floor = sym (undone-left history within floor may.rises)

      alike : (a b : ℕ) → a ≡ b → group_of history.revisions rev ≡ group_of left.revisions rev →
          (if a == rev then edit 0 (group_of history.revisions rev) 0 0 else undo (undone history.revisions floor)) ≡
          (if b == rev then edit 0 (group_of left.revisions rev) 0 0 else undo (undone left.revisions floor))
      alike a b is group =
          ap (λ n. if n == rev then edit 0 (group_of history.revisions rev) 0 0 else undo (undone history.revisions floor)) is ∙
          ap₂ (λ g set. if b == rev then edit 0 g 0 0 else undo set) group at_floor

      same : revision_at left.revisions rev ≡ revision_at history.revisions rev → settled_rev left_next rev ≡ settled_rev next rev →
          settled_revision next rev ≡ settled_revision left_next rev
      same there is = alike (settled_rev next rev) (settled_rev left_next rev) (sym is) (sym (ap edit_group there))

      neither : (a b : ℕ) → (a ≡ rev → ⊥) → (b ≡ rev → ⊥) →
          (if a == rev then edit 0 (group_of history.revisions rev) 0 0 else undo (undone history.revisions floor)) ≡
          (if b == rev then edit 0 (group_of left.revisions rev) 0 0 else undo (undone left.revisions floor))
      neither a b not_a not_b =
          ap (λ c. if c then edit 0 (group_of history.revisions rev) 0 0 else undo (undone history.revisions floor)) (ne_eqb a rev not_a) ∙
          ap undo at_floor ∙
          sym (ap (λ c. if c then edit 0 (group_of left.revisions rev) 0 0 else undo (undone left.revisions floor)) (ne_eqb b rev not_b))

      -- one that is settled as itself at the new floor was so at the old one
      again : rev ≤ history.floor → settled_rev next rev ≡ rev → settled_rev history rev ≡ rev
      again early is = by (is_edit (revision_at history.revisions rev)) refl (has next.collected (group_of history.revisions rev)) refl
        where
          by : (a : Bool) → is_edit (revision_at history.revisions rev) ≡ a → (b : Bool) → has next.collected (group_of history.revisions rev) ≡ b →
              settled_rev history rev ≡ rev
          by true one false is_open =
              let group = group_of history.revisions rev in
              let edits = and_from (is_edit (revision_at history.revisions rev)) (group == group) one (eq-eqb group group refl) in
              settled-last group rev (was_open group is_open) early edits
              (last-early group rev edits
              (sym (settled_rev-last next rev below (and_from (is_edit (revision_at history.revisions rev)) (not (is_collected next rev)) one (ap not is_open))) ∙ is)
              early)
          by true one true collected =
              absurd (omega (arith, some, sym is ∙ settled_rev-none next rev below (and_right (is_edit (revision_at history.revisions rev)) _ (ap not collected))))
          by false none b _ =
              absurd (omega (arith, some, sym is ∙ settled_rev-none next rev below (and_left _ (not (is_collected next rev)) none)))

  revisions-twice : (left_of next).revisions ≡ (left_of left_next).revisions
  revisions-twice =
      ap₂ (λ before after. before ++ after)
      (map-range_same (settled_revision next) (settled_revision left_next) 1 floor (λ rev low high.
      settled_revision-twice rev (omega (arith, low)) (omega (arith, high))))
      (sym (drop-left history within floor may.rises))

  -- ---- the characters

  settled_deletions-twice : (deleted : List ℕ) → settled_deletions left_next (settled_deletions history deleted) ≡ settled_deletions next deleted
  settled_deletions-twice deleted =
      rising_same (settled_deletions left_next (settled_deletions history deleted)) (settled_deletions next deleted)
      (IsRising-settled_deletions left_next (settled_deletions history deleted)) (IsRising-settled_deletions next deleted) (λ n.
      has-settled_deletions left_next (settled_deletions history deleted) n ∙ by n (nat_lt 0 n) refl ∙ sym (has-settled_deletions next deleted n))
    where
      passes : (n : ℕ) → 0 < n → (revs : List ℕ) →
          AllByRecursion (Passes history (λ rev. not (settled_rev next rev == n)) (λ rev. not (settled_rev left_next rev == n))) revs
      passes n some [] = tt
      passes n some (rev ∷ revs) = (at (cases_lt 0 (settled_rev history rev)), passes n some revs)
        where
          at : ((0 < settled_rev history rev) ⊎ (settled_rev history rev ≤ 0)) →
              Passes history (λ r. not (settled_rev next r == n)) (λ r. not (settled_rev left_next r == n)) rev
          at (inl positive_one) = inl (positive_one, ap (λ m. not (m == n)) (settled_rev-twice rev))
          at (inr none) =
              let nought : settled_rev history rev ≡ 0 = omega (arith, none) in
              let nowhere : settled_rev next rev ≡ 0 =
              sym (settled_rev-twice rev) ∙ ap (settled_rev left_next) nought ∙ settled_rev-none left_next 0 (omega arith) refl in
              inr (nought, ap not (ne_eqb (settled_rev next rev) n (λ is. omega (arith, is, nowhere, some))))

      by : (n : ℕ) (b : Bool) → nat_lt 0 n ≡ b →
          (b && list_any (λ rev. settled_rev left_next rev == n) (settled_deletions history deleted)) ≡
          (b && list_any (λ rev. settled_rev next rev == n) deleted)
      by n true some =
          not_any (λ rev. settled_rev left_next rev == n) (settled_deletions history deleted) ∙
          ap not (list_all-settled_deletions history (λ rev. not (settled_rev next rev == n)) (λ rev. not (settled_rev left_next rev == n)) deleted
          (passes n (ltb-true 0 n some) deleted)) ∙
          sym (not_any (λ rev. settled_rev next rev == n) deleted)
      by n false none = refl

  is_dropped-left : (tagged : Tagged) → IsOurs history tagged → is_kept history tagged ≡ true →
      is_dropped left_next (settled history tagged) ≡ is_dropped next tagged
  is_dropped-left tagged ours kept =
      ap (λ set. has next.collected (group_of left.revisions (settled_rev history tagged.inserted)) &&
      has set (group_of left.revisions (settled_rev history tagged.inserted)) ||
      list_any (λ rev. has next.collected (group_of left.revisions rev) && not (has set (group_of left.revisions rev)))
      (settled_deletions history tagged.deleted))
      (ap (undone left.revisions) (head-left history within) ∙ undone-left history within (head history) within) ∙
      ap₂ (λ a b. a || b)
      (inserted-left history (HasFloor-formed history forgets.formed) tagged ours.by (λ g. has next.collected g && has set_now g)
      (and_right (has next.collected 0) (has set_now 0) (no_zero history (head history) forgets.formed))
      (λ collected. and_right (has next.collected (group_of history.revisions tagged.inserted)) _ (kept-inserted history tagged kept collected)))
      (not_any (λ rev. lasts (group_of left.revisions rev)) (settled_deletions history tagged.deleted) ∙
      ap not (deleted-left history (HasFloor-formed history forgets.formed) tagged ours.by (λ _. false) (λ g. not (lasts g)) (λ n m _ _. refl)
      (AllByRecursion-weaker (λ rev. is_collected history rev ≡ true → is_undone history.revisions (head history) rev ≡ true)
      (λ rev. is_collected history rev ≡ true → not (lasts (group_of history.revisions rev)) ≡ true)
      (λ rev stays collected. ap not (and_right (has next.collected (group_of history.revisions rev)) _ (ap not (stays collected)))) tagged.deleted
      (kept-deleted history tagged kept))) ∙
      sym (not_any (λ rev. lasts (group_of history.revisions rev)) tagged.deleted))
    where
      set_now : List ℕ
      set_now = undone history.revisions (head history)

      lasts : ℕ → Bool
      lasts g = has next.collected g && not (has set_now g)

  characters-twice : sifted (is_kept left_next) (settled left_next) left.characters ≡ sifted (is_kept next) (settled next) history.characters
  characters-twice =
      sifted-sifted (is_kept history) (is_kept left_next) (is_kept next) (settled history) (settled left_next) (settled next) history.characters
      (AllByRecursion-weaker (IsOurs history)
      (λ x. (is_kept history x ≡ false → is_kept next x ≡ false) ×
      (is_kept history x ≡ true → (is_kept left_next (settled history x) ≡ is_kept next x) × (settled left_next (settled history x) ≡ settled next x)))
      (λ x ours. (
        λ dropped. ap not (is_dropped-later history next (keeps-after_step history (collects floor groups) may) x ours.tags (not-false (is_dropped history x) dropped)),
        λ kept. (
          ap not (is_dropped-left x ours kept),
          ap₂ (λ n ns. record { character = x.character; inserted = n; deleted = ns }) (settled_rev-twice x.inserted) (settled_deletions-twice x.deleted),
        ),
      )) history.characters (all_ours history forgets))

-- THE COLLECTION STEP goes along
pub left_of-collected : (history : History) (floor : ℕ) (groups : List ℕ) → MayForget history → MayCollect history floor groups →
    left_of (collected_at history floor groups) ≡ left_of (collected_at (left_of history) floor groups)
left_of-collected history floor groups forgets may =
    ap₂ (λ characters revisions. record {
      characters = characters;
      revisions = revisions;
      floor = floor;
      collected = fold with_number history.collected groups;
    })
    (sym (characters-twice history floor groups forgets may)) (revisions-twice history floor groups forgets may)

-- ---- a history that never collected

pub left_of-whole : (history : History) → MayForget history → history.floor ≡ 0 → history.collected ≡ [] → left_of history ≡ history
left_of-whole history forgets at_start never =
    ap₂ (λ characters revisions. record {
      characters = characters;
      revisions = revisions;
      floor = history.floor;
      collected = history.collected;
    })
    (ap (map (settled history)) (filter_all (is_kept history) history.characters (AllByRecursion-weaker (IsOurs history) (λ x. is_kept history x ≡ true)
    (λ x _. kept x) history.characters (all_ours history forgets))) ∙
    map-map-same (IsOurs history) (settled history) (λ x. x) history.characters itself (all_ours history forgets) ∙ map-id history.characters)
    (ap (λ n. map (settled_revision history) (range_with_len 1 n) ++ drop n history.revisions) at_start)
  where
    open_all : (rev : ℕ) → is_collected history rev ≡ false
    open_all rev = ap (λ groups. has groups (group_of history.revisions rev)) never

    none_lasts : (revs : List ℕ) → list_any (λ rev. is_collected history rev && not (is_undone history.revisions (head history) rev)) revs ≡ false
    none_lasts [] = refl
    none_lasts (rev ∷ revs) = ap₂ (λ a b. a && not (is_undone history.revisions (head history) rev) || b) (open_all rev) (none_lasts revs)

    kept : (x : Tagged) → is_kept history x ≡ true
    kept x = ap₂ (λ a b. not (a && is_undone history.revisions (head history) x.inserted || b)) (open_all x.inserted) (none_lasts x.deleted)

    settled_as : (rev : ℕ) → settled_rev history rev ≡ rev
    settled_as zero = settled_rev-none history 0 (omega arith) refl
    settled_as (suc n) = settled_rev-after history (suc n) (omega (arith, at_start))

    no_nought : (n : ℕ) (revs : List ℕ) → AllByRecursion (λ rev. n < rev) revs → has revs 0 ≡ false
    no_nought n [] each = refl
    no_nought n (rev ∷ revs) each = ap₂ (λ a b. a || b) (ne_eqb rev 0 (λ is. omega (arith, is, each.0))) (no_nought n revs each.1)

    positive : (revs : List ℕ) → has revs 0 ≡ false → (n : ℕ) → (nat_lt 0 n && has revs n) ≡ has revs n
    positive revs none zero = sym none
    positive revs none (suc n) = ap (λ b. b && has revs (suc n)) (lt-ltb 0 (suc n) (omega arith))

    any_same : (revs : List ℕ) (n : ℕ) → list_any (λ rev. settled_rev history rev == n) revs ≡ has revs n
    any_same [] n = refl
    any_same (rev ∷ revs) n = ap₂ (λ m b. m == n || b) (settled_as rev) (any_same revs n)

    itself : (x : Tagged) → IsOurs history x → settled history x ≡ x
    itself x ours =
        ap₂ (λ n ns. record { character = x.character; inserted = n; deleted = ns }) (settled_as x.inserted)
        (rising_same (settled_deletions history x.deleted) x.deleted (IsRising-settled_deletions history x.deleted) ours.by.rising (λ n.
        has-settled_deletions history x.deleted n ∙ ap (λ b. nat_lt 0 n && b) (any_same x.deleted n) ∙
        positive x.deleted (no_nought x.inserted x.deleted ours.first) n))
