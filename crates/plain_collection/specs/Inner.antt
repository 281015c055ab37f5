-- What private functions say: deletions that last, and groups that are settled.
use Rattle.std.specs.Prelude.{ℕ, ◌+◌, ◌-◌, Bool, not, ◌&&◌}
use Rattle.std.specs.List.{list_all, range_with_len}
use Rattle.plain_text.specs.Numbers.{has}
use Rattle.plain_edits.specs.History.{History, head, undone, is_undone}
use Rattle.plain_edits.specs.Collection.{agrees, is_collected}

-- whether a revision is of a collected group that is not undone at the head
abbrev pub is_lasting : History → ℕ → Bool
is_lasting history rev = is_collected history rev && not (is_undone history.revisions (head history) rev)

-- whether a group is undone at a revision as it is at the head
abbrev pub is_as_at_head : History → ℕ → ℕ → Bool
is_as_at_head history group rev =
    agrees (has (undone history.revisions rev) group) (has (undone history.revisions (head history)) group)

-- whether it is so at each revision from the floor to the head
abbrev pub settled_from : History → ℕ → ℕ → Bool
settled_from history group floor = list_all (is_as_at_head history group) (range_with_len floor (head history + 1 - floor))
