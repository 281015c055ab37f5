-- What is left of a history without its dropped characters, where what is up to the floor is said once for each group.
use Rattle.std.specs.Prelude.{ℕ, zero, suc, Bool, not, ◌&&◌, if◌then◌else◌, nat_lt, ◌==◌, List, [], ◌++◌, map, drop, fold}
use Rattle.std.specs.List.{filter, range_with_len}
use Rattle.plain_text.specs.Numbers.{with_number}
use Rattle.plain_edits.specs.History.{Tagged, Revision, edit, undo, History, revision_at, group_of, undone}
use Rattle.plain_edits.specs.Collection.{is_collected, is_dropped}
use Rattle.plain_edits.specs.HistorySteps.{is_edit}

-- whether a character is not dropped
abbrev pub is_kept : History → Tagged → Bool
is_kept history tagged = not (is_dropped history tagged)

-- the history without its dropped characters
abbrev pub without_dropped : History → History
without_dropped history = record history { characters = filter (is_kept history) history.characters }

-- whether a revision is an edit of a group
abbrev pub edits_group : List Revision → ℕ → ℕ → Bool
edits_group revisions group rev = is_edit (revision_at revisions rev) && group_of revisions rev == group

-- the last edit of a group up to a revision, or 0
abbrev pub last_edit : List Revision → ℕ → ℕ → ℕ
last_edit revisions group zero = 0
last_edit revisions group (suc most) = if edits_group revisions group (suc most) then suc most else last_edit revisions group most

-- a revision as it is settled: after the floor itself; up to the floor the last edit of its group there, or 0 where it is no edit of a
-- group that is not collected
abbrev pub settled_rev : History → ℕ → ℕ
settled_rev history rev =
    if nat_lt history.floor rev then rev else (
    if is_edit (revision_at history.revisions rev) && not (is_collected history rev)
    then last_edit history.revisions (group_of history.revisions rev) history.floor else 0)

-- the deletions, settled, each once and rising, without 0
abbrev pub settled_deletions : History → List ℕ → List ℕ
settled_deletions history deleted = fold with_number [] (filter (nat_lt 0) (map (settled_rev history) deleted))

-- a character, its revisions settled
abbrev pub settled : History → Tagged → Tagged
settled history tagged = record {
  character = tagged.character;
  inserted = settled_rev history tagged.inserted;
  deleted = settled_deletions history tagged.deleted;
}

-- a revision up to the floor: the last edit of its group there stands for all of them, and each other one says what is undone there
abbrev pub settled_revision : History → ℕ → Revision
settled_revision history rev =
    if settled_rev history rev == rev then edit 0 (group_of history.revisions rev) 0 0 else undo (undone history.revisions history.floor)

-- WHAT IS LEFT of a history
abbrev pub left_of : History → History
left_of history = record history {
  characters = map (settled history) (filter (is_kept history) history.characters);
  revisions = map (settled_revision history) (range_with_len 1 history.floor) ++ drop history.floor history.revisions;
}
