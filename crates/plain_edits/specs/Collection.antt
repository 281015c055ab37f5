-- When old groups may be collected, what a collection is, and which characters no kept revision can show again.
use Rattle.std.specs.Prelude.{◌≡◌, ℕ, zero, suc, ◌+◌, ◌-◌, ◌≤◌, Bool, true, false, not, ◌&&◌, ◌||◌, if◌then◌else◌, nat_le, List, [], ◌∷◌, drop, Option, Some, None}
use Rattle.std.specs.List.{list_all, list_any, count_by, filter, fold, range_with_len, AllByRecursion}
use Rattle.plain_text.specs.Numbers.{has, with_number}
use Rattle.plain_edits.specs.History.{Tagged, Revision, edit, undo, History, head, group_of, undone, is_undone}
use Rattle.plain_edits.specs.Edits.{is_edit_of}

-- whether a number is a group's: the group has an edit, or it is collected
abbrev pub is_group : History → ℕ → Bool
is_group history group = list_any (is_edit_of group) history.revisions || has history.collected group

-- whether a revision is no edit against a base below the floor
abbrev pub is_based_from : ℕ → Revision → Bool
is_based_from floor (edit base group priority author) = nat_le floor base
is_based_from floor (undo groups) = true

-- whether the floor is clean: no edit after it has a base below it
abbrev pub is_clean : List Revision → ℕ → Bool
is_clean revisions floor = list_all (is_based_from floor) (drop floor revisions)

-- the greatest clean floor up to a revision
abbrev pub clean_floor : List Revision → ℕ → ℕ
clean_floor revisions zero = 0
clean_floor revisions (suc most) = if is_clean revisions (suc most) then suc most else clean_floor revisions most

-- a group is at rest at a floor: all its edits are by then, and whether it is undone is the same from there to the head
pub record IsAtRest (history : History) (floor group : ℕ) : Type 0 where
  pub is_over : list_any (is_edit_of group) (drop floor history.revisions) ≡ false
  pub is_settled : (rev : ℕ) → floor ≤ rev → rev ≤ head history →
      has (undone history.revisions rev) group ≡ has (undone history.revisions (head history)) group

-- whether two truths are one
abbrev pub agrees : Bool → Bool → Bool
agrees true truth = truth
agrees false truth = not truth

-- the same as a test
abbrev pub is_at_rest : History → ℕ → ℕ → Bool
is_at_rest history floor group =
    not (list_any (is_edit_of group) (drop floor history.revisions)) &&
    list_all (λ rev. agrees (has (undone history.revisions rev) group) (has (undone history.revisions (head history)) group))
    (range_with_len floor (head history + 1 - floor))

-- a group qualifies at a floor, where `retired` are the retired groups: it is one of them, and at rest
pub record Qualifies (history : History) (retired : List ℕ) (floor group : ℕ) : Type 0 where
  pub is_retired : has retired group ≡ true
  pub at_rest : IsAtRest history floor group

-- THE COLLECTION STEP: the floor rises, and the groups are collected; no character goes
abbrev pub collected_at : History → ℕ → List ℕ → History
collected_at history floor groups = record history { floor = floor; collected = fold with_number history.collected groups }

-- a collection may come: its floor is from the present one to the head and clean, and each of its groups is at rest there
pub record MayCollect (history : History) (floor : ℕ) (groups : List ℕ) : Type 0 where
  pub rises : history.floor ≤ floor
  pub known : floor ≤ head history
  pub clean : is_clean history.revisions floor ≡ true
  pub at_rest : AllByRecursion (IsAtRest history floor) groups

-- a collection: the new floor, and the groups that are collected
pub record Collection : Type 0 where
  pub floor : ℕ
  pub groups : List ℕ

-- the retired groups that are not collected yet and are at rest at a floor
abbrev pub resting_groups : History → List ℕ → ℕ → List ℕ
resting_groups history retired floor =
    filter (λ group. not (has history.collected group) && is_at_rest history floor group) retired

-- the collection of these groups at a floor, if there are any
abbrev pub collection_at : ℕ → List ℕ → Option Collection
collection_at floor [] = None
collection_at floor (group ∷ groups) = Some (record { floor = floor; groups = group ∷ groups })

-- THE RULE OF WHERE: what is collected after an entry, if anything, where `retired` are the retired groups and `most` is the least
-- revision that the open sessions have acknowledged, or the head where none is open: the resting groups at the greatest clean floor up
-- to there
abbrev pub collection_of : History → List ℕ → ℕ → Option Collection
collection_of history retired most =
    collection_at (clean_floor history.revisions most)
    (resting_groups history retired (clean_floor history.revisions most))

-- the history after a collection, if one comes
abbrev pub after_collection : History → Option Collection → History
after_collection history None = history
after_collection history (Some collection) = collected_at history collection.floor collection.groups

-- whether a revision is of a collected group
abbrev pub is_collected : History → ℕ → Bool
is_collected history rev = has history.collected (group_of history.revisions rev)

-- whether no kept revision can show the character again: its insertion is collected and undone, or a deletion is collected and is not undone
abbrev pub is_dropped : History → Tagged → Bool
is_dropped history tagged =
    is_collected history tagged.inserted && is_undone history.revisions (head history) tagged.inserted ||
    list_any (λ rev. is_collected history rev && not (is_undone history.revisions (head history) rev)) tagged.deleted

-- how many characters are kept
abbrev pub kept : History → ℕ
kept history = count_by (λ tagged. not (is_dropped history tagged)) history.characters
