-- What an edit and an undo add to a history, when they may come, and what edits of one base come to.
use Rattle.std.specs.Prelude.{◌≡◌, ℕ, ◌+◌, ◌<◌, Bool, true, false, not, ◌&&◌, if◌then◌else◌, nat_lt, ◌==◌, List, [], ◌∷◌, ◌++◌, length, map, take, Option, Some, None}
use Rattle.std.specs.List.{flat_map, range_with_len, count_by, list_all, list_any, AllByRecursion}
use Rattle.plain_edits.specs.declared.delta.Misfit.{Misfit}
use Rattle.plain_edits.specs.declared.delta.Delta.{Delta}
use Rattle.plain_edits.specs.declared.rank.Rank.{Rank}
use Rattle.plain_text.specs.Numbers.{has}
use Rattle.plain_text.specs.Woven.{woven}
use Rattle.plain_edits.specs.Rank.{is_lower}
use Rattle.plain_edits.specs.Delta.{misfit_of, keeps, adds, inserted_len}
use Rattle.plain_edits.specs.History.{Tagged, inserted_by, Revision, edit, undo, History, head, is_visible, visible_at, text_at, undone, inserted_count}
use Rattle.plain_edits.specs.Place.{insertion_place}

-- an edit, in characters: its base, which characters of the base's text it keeps, the text that it adds at each gap, its group, priority and author
pub record PlainEdit : Type 0 where
  pub base : ℕ
  pub kept : ℕ → Bool
  pub added : ℕ → List ℕ
  pub group : ℕ
  pub priority : ℕ
  pub author : ℕ

-- the rank of what it inserts
abbrev pub insertion_rank : PlainEdit → Rank
insertion_rank e = record { priority = e.priority; author = e.author }

-- how many gaps the text of a revision has
abbrev pub gap_count : History → ℕ → ℕ
gap_count history rev = length (visible_at history rev) + 1

-- the characters that the edit inserts at an index: the text of the gap whose insertion place it is
abbrev pub inserted_at : History → PlainEdit → ℕ → List Tagged
inserted_at history e index =
    flat_map (λ gap. if insertion_place history e.base (insertion_rank e) gap == index
    then map (inserted_by (head history + 1)) (e.added gap) else [])
    (range_with_len 0 (gap_count history e.base))

-- whether the edit drops the character with this index: it is visible at the base, and the edit does not keep it
abbrev pub is_deleted_by : History → PlainEdit → ℕ → Tagged → Bool
is_deleted_by history e index tagged =
    is_visible history.revisions e.base tagged &&
    not (e.kept (count_by (is_visible history.revisions e.base) (take index history.characters)))

-- the character, deleted by one more revision
abbrev pub with_deletion : ℕ → Tagged → Tagged
with_deletion rev tagged = record tagged { deleted = tagged.deleted ++ rev ∷ [] }

-- THE EDIT STEP
abbrev pub edited : History → PlainEdit → History
edited history e = record history {
  characters =
      woven (inserted_at history e)
      (λ index tagged. (if is_deleted_by history e index tagged then with_deletion (head history + 1) tagged else tagged) ∷ []) 0
      history.characters;
  revisions = history.revisions ++ edit e.base e.group e.priority e.author ∷ [];
}

-- THE UNDO STEP
abbrev pub undid : History → List ℕ → History
undid history groups = record history { revisions = history.revisions ++ undo groups ∷ [] }

-- whether an edit of the history is of this group
abbrev pub is_edit_of : ℕ → Revision → Bool
is_edit_of group (edit base g priority author) = g == group
is_edit_of group (undo groups) = false

-- the set may be undone: its groups count from 1, have an edit, and agree with what is undone on each collected group
pub record MayUndo (history : History) (groups : List ℕ) : Type 0 where
  pub known : AllByRecursion (λ group. (0 < group) × (list_any (is_edit_of group) history.revisions ≡ true)) groups
  pub frozen : AllByRecursion (λ group. has groups group ≡ has (undone history.revisions (head history)) group) history.collected

-- a delta against a revision, in characters
abbrev pub plain_edit : History → ℕ → Delta → ℕ → ℕ → ℕ → PlainEdit
plain_edit history base delta group priority author = record {
  base = base;
  kept = keeps (text_at history base) delta;
  added = adds (text_at history base) delta;
  group = group;
  priority = priority;
  author = author;
}

-- why an edit is refused
pub data Refusal : Type 0 where
  unknown : (head : ℕ) → Refusal
  collected : (floor : ℕ) → Refusal
  misfit : (first : Misfit) → Refusal
  spent : (total : ℕ) → Refusal

-- the refusal of a misfit, or else of the characters spent in all
abbrev pub misfit_or_spent : Option Misfit → ℕ → ℕ → Option Refusal
misfit_or_spent (Some first) limit total = Some (misfit first)
misfit_or_spent None limit total = if nat_lt limit total then Some (spent total) else None

-- THE EDIT REFUSAL, in its order: a base above the head, a base below the floor, a misfit, more characters than the limit
abbrev pub edit_refusal : History → ℕ → ℕ → Delta → Option Refusal
edit_refusal history limit base delta =
    if nat_lt (head history) base then Some (unknown (head history)) else (
    if nat_lt base history.floor then Some (collected history.floor) else
    misfit_or_spent (misfit_of (text_at history base) delta) limit (inserted_count history + inserted_len delta.els))

-- the edits in rising order of rank; those of equal rank in the order of the list
abbrev pub with_earlier : PlainEdit → List PlainEdit → List PlainEdit
with_earlier e [] = e ∷ []
with_earlier e (f ∷ edits) =
    if is_lower (insertion_rank f) (insertion_rank e) then f ∷ with_earlier e edits else e ∷ f ∷ edits

abbrev pub by_rank : List PlainEdit → List PlainEdit
by_rank [] = []
by_rank (e ∷ edits) = with_earlier e (by_rank edits)

-- what edits of one text come to: at each gap their texts in rising order of rank, and each character that all of them keep
abbrev pub merged : List ℕ → List PlainEdit → List ℕ
merged text edits =
    woven (λ gap. flat_map (λ e. e.added gap) (by_rank edits))
    (λ index c. if list_all (λ e. e.kept index) edits then c ∷ [] else []) 0 text
