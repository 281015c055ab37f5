-- What is left shows, at each revision from the floor to the head, what the history shows.
use Rattle.std.proofs.Common.{◌≡◌, ℕ, ◌≤◌, Bool, true, false, not, ◌&&◌, ◌||◌, nat_lt, nat_le, List, [], ◌∷◌, length, map, take, filter, refl, ap, ap₂, sym, ◌∙◌, inl, inr, arith}
use Rattle.std.specs.Prelude.{◌⊎◌}
use Rattle.std.specs.List.{AllByRecursion, list_all, list_any}
use Rattle.std.proofs.lemmas.Bool.{not-false, both_ways, or_right, cases_lt, le-ltb, le-leb}
use Rattle.std.proofs.lemmas.List.{length-map}
use Rattle.std.proofs.lemmas.List.Sums.{length-filter}
use Rattle.plain_text.specs.Numbers.{has}
use Rattle.plain_text.proofs.callers.ListLemmas.{AllByRecursion-take, AllByRecursion-weaker}
use Rattle.plain_edits.specs.History.{Tagged, Revision, edit, undo, History, head, revision_at, group_of, undone_after, undone, is_undone, is_visible, visible_at, text_at}
use Rattle.plain_edits.specs.Collection.{IsAtRest, is_collected, kept}
use Rattle.plain_edits.specs.Change.{passes_at, change_keeps, change_adds, block}
use Rattle.plain_edits.specs.HistorySteps.{is_edit, HasRisingSet, IsByEdits, IsWellFormed}
use Rattle.plain_edits.proofs.callers.CollectionLemmas.{all_has}
use Rattle.collection_laws.specs.MayForget.{MayForget}
use Rattle.collection_laws.specs.Left.{is_kept, settled_rev, settled_deletions, settled, left_of}
use Rattle.collection_laws.proofs.ListLemmas.{all_both, Goes, filter-sifted, block-sifted, passes_at-map, AllByRecursion-block, AllByRecursion-filter}
use Rattle.collection_laws.proofs.DroppedLemmas.{IsOurs, all_ours, by_edit, edit_by_floor, shown_is_kept}
use Rattle.collection_laws.proofs.SettledLemmas.{settled_rev-none, Passes, list_all-settled_deletions, undone-left, StaysAs, IsForgotten, settles_by}

-- an undone set rises, without group 0
sets-after : (groups : List ℕ) (revisions : List Revision) → AllByRecursion HasRisingSet revisions → HasRisingSet (undo groups) →
    HasRisingSet (undo (undone_after groups revisions))
sets-after groups [] sets is = is
sets-after groups (edit base group priority author ∷ revisions) sets is = sets-after groups revisions sets.1 is
sets-after groups (undo set ∷ revisions) sets is = sets-after set revisions sets.1 sets.0

pub HasRisingSet-undone_by : (revisions : List Revision) (at : ℕ) → AllByRecursion HasRisingSet revisions → HasRisingSet (undo (undone revisions at))
HasRisingSet-undone_by revisions at sets = sets-after [] (take at revisions) (AllByRecursion-take HasRisingSet at revisions sets) (tt, refl)

pub HasRisingSet-undone : (history : History) (at : ℕ) → IsWellFormed history → HasRisingSet (undo (undone history.revisions at))
HasRisingSet-undone history at formed = HasRisingSet-undone_by history.revisions at formed.sets

pub no_zero : (history : History) (at : ℕ) → IsWellFormed history → has (undone history.revisions at) 0 ≡ false
no_zero history at formed = (HasRisingSet-undone history at formed).1

-- the floor of a history: it is by the head, no edit of a collected group is after it, and nothing that is undone has group 0
pub record HasFloor (history : History) : Type 0 where
  pub floor : history.floor ≤ head history
  pub over : (rev : ℕ) → is_edit (revision_at history.revisions rev) ≡ true → is_collected history rev ≡ true → rev ≤ history.floor
  pub loaded : (at : ℕ) → has (undone history.revisions at) 0 ≡ false

pub HasFloor-formed : (history : History) → IsWellFormed history → HasFloor history
HasFloor-formed history formed = record {
  floor = formed.floor;
  over = λ rev is collected. edit_by_floor history rev formed is collected;
  loaded = λ at. no_zero history at formed;
}

-- whether a collected group is undone is the same from the floor to the head
pub undone-at_rest : (history : History) (at rev : ℕ) → IsWellFormed history → history.floor ≤ at → at ≤ head history →
    is_collected history rev ≡ true → is_undone history.revisions at rev ≡ is_undone history.revisions (head history) rev
undone-at_rest history at rev formed low high is =
    (all_has (IsAtRest history history.floor) history.collected (group_of history.revisions rev) formed.at_rest is).is_settled at low high

-- ---- what a kept character says

or_none : (a b : Bool) → not (a || b) ≡ true → (a ≡ false) × (b ≡ false)
or_none true b is = absurd (both_ways false refl is)
or_none false true is = absurd (both_ways false refl is)
or_none false false is = (refl, refl)

not_both : (a b : Bool) → (a && b) ≡ false → a ≡ true → b ≡ false
not_both true b is holds = is
not_both false b is holds = absurd (both_ways false refl holds)

module _ (history : History) (tagged : Tagged) (is : is_kept history tagged ≡ true) where
  abbrev lasts : ℕ → Bool
  lasts rev = is_collected history rev && not (is_undone history.revisions (head history) rev)

  abbrev gone : Bool
  gone = is_collected history tagged.inserted && is_undone history.revisions (head history) tagged.inserted

  pub kept-inserted : is_collected history tagged.inserted ≡ true → is_undone history.revisions (head history) tagged.inserted ≡ false
  kept-inserted = not_both (is_collected history tagged.inserted) _ (or_none gone (list_any lasts tagged.deleted) is).0

  pub kept-deleted : AllByRecursion (λ rev. is_collected history rev ≡ true → is_undone history.revisions (head history) rev ≡ true) tagged.deleted
  kept-deleted = each tagged.deleted (or_none gone (list_any lasts tagged.deleted) is).1
    where
      each : (revs : List ℕ) → list_any lasts revs ≡ false →
          AllByRecursion (λ rev. is_collected history rev ≡ true → is_undone history.revisions (head history) rev ≡ true) revs
      each [] none = tt
      each (rev ∷ revs) none =
          let parts = or_none (lasts rev) (list_any lasts revs) (ap not none) in
          (λ collected. not-false _ (not_both (is_collected history rev) _ parts.0 collected), each revs parts.1)

-- ---- tests of a character's groups, in what is left

module _ (history : History) (past : HasFloor history) (tagged : Tagged) (edits : IsByEdits history.revisions tagged) where
  -- a test of the insertion's group, which fails for the loaded text and where the insertion is forgotten
  pub inserted-left : (test : ℕ → Bool) → test 0 ≡ false →
      (is_collected history tagged.inserted ≡ true → test (group_of history.revisions tagged.inserted) ≡ false) →
      test (group_of (left_of history).revisions (settled_rev history tagged.inserted)) ≡ test (group_of history.revisions tagged.inserted)
  inserted-left test zero_fails forgotten_fails =
      elim (cases_lt 0 tagged.inserted) [
        | inl later ↦ by (settles_by history tagged.inserted past.floor (past.over tagged.inserted) (by_edit history tagged edits later))
        | inr loaded ↦
            let none : tagged.inserted ≡ 0 = omega (arith, loaded) in
            ap (λ n. test (group_of (left_of history).revisions (settled_rev history n))) none ∙
            ap (λ n. test (group_of (left_of history).revisions n)) (settled_rev-none history 0 (omega arith) refl) ∙
            ap (λ n. test (group_of history.revisions n)) (sym none)
      ]
    where
      by : (StaysAs history tagged.inserted) ⊎ (IsForgotten history tagged.inserted) →
          test (group_of (left_of history).revisions (settled_rev history tagged.inserted)) ≡ test (group_of history.revisions tagged.inserted)
      by (inl stays) = ap test stays.group
      by (inr goes) =
          ap (λ n. test (group_of (left_of history).revisions n)) goes.none ∙ zero_fails ∙ sym (forgotten_fails goes.is)

  -- whether it came by a revision from the floor on
  pub nat_le-left : (at : ℕ) → history.floor ≤ at → nat_le (settled_rev history tagged.inserted) at ≡ nat_le tagged.inserted at
  nat_le-left at low =
      elim (cases_lt 0 tagged.inserted) [
        | inl later ↦ by (settles_by history tagged.inserted past.floor (past.over tagged.inserted) (by_edit history tagged edits later))
        | inr loaded ↦
            let none : tagged.inserted ≡ 0 = omega (arith, loaded) in
            ap (λ n. nat_le (settled_rev history n) at) none ∙
            ap (λ n. nat_le n at) (settled_rev-none history 0 (omega arith) refl ∙ sym none)
      ]
    where
      by : (StaysAs history tagged.inserted) ⊎ (IsForgotten history tagged.inserted) →
          nat_le (settled_rev history tagged.inserted) at ≡ nat_le tagged.inserted at
      by (inl stays) = beside stays.beside
        where
          beside : ((settled_rev history tagged.inserted ≡ tagged.inserted) ⊎
              ((settled_rev history tagged.inserted ≤ history.floor) × (tagged.inserted ≤ history.floor))) →
              nat_le (settled_rev history tagged.inserted) at ≡ nat_le tagged.inserted at
          beside (inl same) = ap (λ n. nat_le n at) same
          beside (inr both) =
              le-leb (settled_rev history tagged.inserted) at (omega (arith, both.0, low)) ∙
              sym (le-leb tagged.inserted at (omega (arith, both.1, low)))
      by (inr goes) =
          le-leb (settled_rev history tagged.inserted) at (omega (arith, goes.none)) ∙
          sym (le-leb tagged.inserted at (omega (arith, goes.old, low)))

  -- a test of the deletions' groups, which passes where a deletion is forgotten; late deletions pass too
  pub deleted-left : (late test : ℕ → Bool) → ((n m : ℕ) → n ≤ history.floor → m ≤ history.floor → late n ≡ late m) →
      AllByRecursion (λ rev. is_collected history rev ≡ true → test (group_of history.revisions rev) ≡ true) tagged.deleted →
      list_all (λ rev. late rev || test (group_of (left_of history).revisions rev)) (settled_deletions history tagged.deleted) ≡
      list_all (λ rev. late rev || test (group_of history.revisions rev)) tagged.deleted
  deleted-left late test alike passing =
      list_all-settled_deletions history (λ rev. late rev || test (group_of history.revisions rev))
      (λ rev. late rev || test (group_of (left_of history).revisions rev)) tagged.deleted
      (AllByRecursion-weaker
      (λ rev. (is_edit (revision_at history.revisions rev) ≡ true) × (is_collected history rev ≡ true → test (group_of history.revisions rev) ≡ true))
      (Passes history (λ rev. late rev || test (group_of history.revisions rev)) (λ rev. late rev || test (group_of (left_of history).revisions rev)))
      (λ rev both. by rev both.1 (settles_by history rev past.floor (past.over rev) both.0)) tagged.deleted
      (all_both (λ rev. is_edit (revision_at history.revisions rev) ≡ true)
      (λ rev. is_collected history rev ≡ true → test (group_of history.revisions rev) ≡ true) tagged.deleted edits.deleted passing))
    where
      by : (rev : ℕ) → (is_collected history rev ≡ true → test (group_of history.revisions rev) ≡ true) →
          (StaysAs history rev) ⊎ (IsForgotten history rev) →
          Passes history (λ r. late r || test (group_of history.revisions r)) (λ r. late r || test (group_of (left_of history).revisions r)) rev
      by rev passes (inl stays) = inl (stays.some, ap₂ (λ a b. a || b) (beside stays.beside) (ap test stays.group))
        where
          beside : ((settled_rev history rev ≡ rev) ⊎ ((settled_rev history rev ≤ history.floor) × (rev ≤ history.floor))) →
              late (settled_rev history rev) ≡ late rev
          beside (inl same) = ap late same
          beside (inr both) = alike (settled_rev history rev) rev both.0 both.1
      by rev passes (inr goes) = inr (goes.none, or_right (late rev) (test (group_of history.revisions rev)) (passes goes.is))

  -- WHAT IS VISIBLE in what is left
  pub is_visible-left : (at : ℕ) → is_kept history tagged ≡ true → history.floor ≤ at →
      ((rev : ℕ) → is_collected history rev ≡ true → is_undone history.revisions at rev ≡ is_undone history.revisions (head history) rev) →
      is_visible (left_of history).revisions at (settled history tagged) ≡ is_visible history.revisions at tagged
  is_visible-left at is low rests =
      ap (λ set. nat_le (settled_rev history tagged.inserted) at &&
      not (has set (group_of (left_of history).revisions (settled_rev history tagged.inserted))) &&
      list_all (λ rev. nat_lt at rev || has set (group_of (left_of history).revisions rev)) (settled_deletions history tagged.deleted))
      (undone-left history past.floor at low) ∙
      ap₂ (λ a b. a && b)
      (ap₂ (λ a b. a && not b) (nat_le-left at low)
      (inserted-left (has (undone history.revisions at)) (past.loaded at)
      (λ collected. rests tagged.inserted collected ∙ kept-inserted history tagged is collected)))
      (deleted-left (nat_lt at) (has (undone history.revisions at))
      (λ n m below under. le-ltb at n (omega (arith, below, low)) ∙ sym (le-ltb at m (omega (arith, under, low))))
      (AllByRecursion-weaker (λ rev. is_collected history rev ≡ true → is_undone history.revisions (head history) rev ≡ true)
      (λ rev. is_collected history rev ≡ true → is_undone history.revisions at rev ≡ true)
      (λ rev stays collected. rests rev collected ∙ stays collected) tagged.deleted
      (kept-deleted history tagged is)))

-- ---- each law of texts

module _ (history : History) (forgets : MayForget history) where
  pub goes-shown : (rev : ℕ) → history.floor ≤ rev → rev ≤ head history → AllByRecursion
      (Goes (is_kept history) (settled history) (is_visible history.revisions rev) (is_visible (left_of history).revisions rev)) history.characters
  goes-shown rev low high =
      AllByRecursion-weaker (IsOurs history)
      (Goes (is_kept history) (settled history) (is_visible history.revisions rev) (is_visible (left_of history).revisions rev))
      (λ tagged ours. record {
        stays = shown_is_kept history tagged rev ours low high;
        alike = λ is.
            is_visible-left history (HasFloor-formed history forgets.formed) tagged ours.by rev is low
            (λ r collected. undone-at_rest history rev r forgets.formed low high collected);
      }) history.characters (all_ours history forgets)

  pub visible_at-left : (rev : ℕ) → history.floor ≤ rev → rev ≤ head history →
      visible_at (left_of history) rev ≡ map (settled history) (visible_at history rev)
  visible_at-left rev low high =
      filter-sifted (is_kept history) (settled history) (is_visible history.revisions rev) (is_visible (left_of history).revisions rev)
      history.characters (goes-shown rev low high)

  characters-settled : (xs : List Tagged) → map (λ tagged. tagged.character) (map (settled history) xs) ≡ map (λ tagged. tagged.character) xs
  characters-settled [] = refl
  characters-settled (x ∷ xs) = ap (λ cs. x.character ∷ cs) (characters-settled xs)

  pub text_at-left : (rev : ℕ) → history.floor ≤ rev → rev ≤ head history → text_at (left_of history) rev ≡ text_at history rev
  text_at-left rev low high = ap (map (λ tagged. tagged.character)) (visible_at-left rev low high) ∙ characters-settled (visible_at history rev)

  -- what is shown, and what is kept in a block, with the other test
  pub change_keeps-left : (from to index : ℕ) → history.floor ≤ from → from ≤ head history → history.floor ≤ to → to ≤ head history →
      change_keeps (left_of history) from to index ≡ change_keeps history from to index
  change_keeps-left from to index low high to_low to_high =
      ap (passes_at (is_visible (left_of history).revisions to) index) (visible_at-left from low high) ∙
      passes_at-map (settled history) (is_visible history.revisions to) (is_visible (left_of history).revisions to) index (visible_at history from)
      (AllByRecursion-weaker
      (λ x. (IsOurs history x) × (is_visible history.revisions from x ≡ true))
      (λ x. is_visible (left_of history).revisions to (settled history x) ≡ is_visible history.revisions to x)
      (λ x both.
      is_visible-left history (HasFloor-formed history forgets.formed) x both.0.by to (shown_is_kept history x from both.0 low high both.1) to_low
      (λ r collected. undone-at_rest history to r forgets.formed to_low to_high collected))
      (visible_at history from) (AllByRecursion-filter (IsOurs history) (is_visible history.revisions from) history.characters (all_ours history forgets)))

  pub change_adds-left : (from to gap : ℕ) → history.floor ≤ from → from ≤ head history → history.floor ≤ to → to ≤ head history →
      change_adds (left_of history) from to gap ≡ change_adds history from to gap
  change_adds-left from to gap low high to_low to_high =
      ap (λ xs. map (λ tagged. tagged.character) (filter (is_visible (left_of history).revisions to) xs))
      (block-sifted (is_kept history) (settled history) (is_visible history.revisions from) (is_visible (left_of history).revisions from) gap
      history.characters (goes-shown from low high)) ∙
      ap (map (λ tagged. tagged.character))
      (filter-sifted (is_kept history) (settled history) (is_visible history.revisions to) (is_visible (left_of history).revisions to)
      (block (is_visible history.revisions from) gap history.characters)
      (AllByRecursion-block (Goes (is_kept history) (settled history) (is_visible history.revisions to) (is_visible (left_of history).revisions to))
      (is_visible history.revisions from) gap history.characters (goes-shown to to_low to_high))) ∙
      characters-settled (filter (is_visible history.revisions to) (block (is_visible history.revisions from) gap history.characters))

-- as many are left as are kept
pub length-left : (history : History) → length (left_of history).characters ≡ kept history
length-left history =
    length-map (filter (is_kept history) history.characters) (settled history) ∙ length-filter (is_kept history) history.characters
