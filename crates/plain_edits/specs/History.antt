-- A history: the flat list of tagged characters, which never shrinks, and the list of revisions.
use Rattle.std.specs.Prelude.{ℕ, zero, suc, ◌≤◌, Bool, not, ◌&&◌, ◌||◌, nat_lt, nat_le, List, [], ◌∷◌, length, map, take, Option, Some, None, slice_get}
use Rattle.std.specs.List.{filter, count_by, list_all, AllByRecursion}
use Rattle.plain_text.specs.Numbers.{has}
use Rattle.plain_edits.specs.declared.rank.Rank.{Rank}

-- a character, the revision that inserted it, and the revisions that delete it, which rise
pub record Tagged : Type 0 where
  pub character : ℕ
  pub inserted : ℕ
  pub deleted : List ℕ

-- a character as a revision inserts it
abbrev pub inserted_by : ℕ → ℕ → Tagged
inserted_by rev c = record { character = c; inserted = rev; deleted = [] }

-- whether the character was inserted by a revision or before it
abbrev pub is_there : ℕ → Tagged → Bool
is_there rev tagged = nat_le tagged.inserted rev

-- a revision: an edit against a base, or an undo, which says all groups that are undone from it on
pub data Revision : Type 0 where
  edit : (base group priority author : ℕ) → Revision
  undo : (groups : List ℕ) → Revision

-- a history; its revisions count from 1, and revision 0 is the loaded text
pub record History : Type 0 where
  pub characters : List Tagged
  pub revisions : List Revision
  -- the first revision that may still be asked for, and the groups that were collected, which rise
  pub floor : ℕ
  pub collected : List ℕ

-- the history of a text that was just loaded
abbrev pub loaded : List ℕ → History
loaded text = record {
  characters = map (inserted_by 0) text;
  revisions = [];
  floor = 0;
  collected = [];
}

-- how many characters were ever inserted after loading
abbrev pub inserted_count : History → ℕ
inserted_count history = count_by (λ tagged. nat_lt 0 tagged.inserted) history.characters

-- the last revision
abbrev pub head : History → ℕ
head history = length history.revisions

-- the revision with this number, where it is not the loaded text
abbrev pub revision_at : List Revision → ℕ → Option Revision
revision_at revisions zero = None
revision_at revisions (suc n) = slice_get revisions n

-- what an edit says; the loaded text has group 0
abbrev pub edit_group : Option Revision → ℕ
edit_group None = 0
edit_group (Some (edit base group priority author)) = group
edit_group (Some (undo groups)) = 0

-- the rank of what it inserts; the loaded text and an undo have the lowest
abbrev pub edit_rank : Option Revision → Rank
edit_rank None = record { priority = 0; author = 0 }
edit_rank (Some (edit base group priority author)) = record { priority = priority; author = author }
edit_rank (Some (undo groups)) = record { priority = 0; author = 0 }

-- the group and the rank of a revision
abbrev pub group_of : List Revision → ℕ → ℕ
group_of revisions rev = edit_group (revision_at revisions rev)

abbrev pub rank_of : List Revision → ℕ → Rank
rank_of revisions rev = edit_rank (revision_at revisions rev)

-- the groups that are undone after these revisions, where `groups` were before
abbrev pub undone_after : List ℕ → List Revision → List ℕ
undone_after groups [] = groups
undone_after groups (edit base group priority author ∷ revisions) = undone_after groups revisions
undone_after groups (undo undone ∷ revisions) = undone_after undone revisions

-- the groups that are undone at a revision
abbrev pub undone : List Revision → ℕ → List ℕ
undone revisions rev = undone_after [] (take rev revisions)

-- whether a revision's group is undone at revision `at`
abbrev pub is_undone : List Revision → ℕ → ℕ → Bool
is_undone revisions at rev = has (undone revisions at) (group_of revisions rev)

-- whether a character would be visible at a revision if exactly these groups were undone there: it was inserted by then, its insertion
-- is not undone, and each deletion by then is undone
abbrev pub is_visible_under : List Revision → List ℕ → ℕ → Tagged → Bool
is_visible_under revisions groups at tagged =
    nat_le tagged.inserted at && not (has groups (group_of revisions tagged.inserted)) &&
    list_all (λ rev. nat_lt at rev || has groups (group_of revisions rev)) tagged.deleted

-- whether a character is visible at a revision: under the groups that are undone there
abbrev pub is_visible : List Revision → ℕ → Tagged → Bool
is_visible revisions at tagged = is_visible_under revisions (undone revisions at) at tagged

-- the visible characters of a revision, in order, with their tags and without
abbrev pub visible_at : History → ℕ → List Tagged
visible_at history rev = filter (is_visible history.revisions rev) history.characters

abbrev pub text_at : History → ℕ → List ℕ
text_at history rev = map (λ tagged. tagged.character) (visible_at history rev)

-- the character's revisions are among the first `head` ones
pub record IsTaggedBy (head : ℕ) (tagged : Tagged) : Type 0 where
  pub inserted : tagged.inserted ≤ head
  pub deleted : AllByRecursion (λ rev. rev ≤ head) tagged.deleted

-- each character is of revisions that are there
abbrev pub IsSound : History → Type 0
IsSound history = AllByRecursion (IsTaggedBy (head history)) history.characters
