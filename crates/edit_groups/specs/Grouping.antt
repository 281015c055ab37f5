-- In which undo group an edit goes: it joins one, or opens the next.
use Rattle.std.specs.Prelude.{ℕ, ◌+◌, Bool, not, ◌&&◌, if◌then◌else◌, nat_lt, Option, Some, None, option_map}
use Rattle.std.specs.List.{list_any}
use Rattle.plain_text.specs.Numbers.{has}
use Rattle.plain_edits.specs.History.{History}
use Rattle.plain_edits.specs.Edits.{is_edit_of}
use Rattle.undo_groups.specs.Groups.{Groups, after_opening, is_known}
use Rattle.edit_groups.specs.declared.typing.Typing.{Typing}

-- whether an edit may join the group: it counts from 1, has an edit and is not collected; it may be undone
abbrev pub may_join : History → ℕ → Bool
may_join history group =
    nat_lt 0 group && (list_any (is_edit_of group) history.revisions && not (has history.collected group))

-- the group that the edit of a plugin joins, where it names one that it may join
abbrev pub named_group : History → Option ℕ → Option ℕ
named_group history None = None
named_group history (Some group) = if may_join history group then Some group else None

-- the same, by what the stack knows: the group is named, and it knows it
abbrev pub known_group : Groups → Option ℕ → Option ℕ
known_group groups None = None
known_group groups (Some group) = if is_known groups group then Some group else None

-- the group that an edit of the run joins
abbrev pub run_group : Option Typing → Option ℕ
run_group run = option_map (λ (r : Typing). r.group) run

-- the group of an edit that joins this one, where there is one, or opens the next; and the groups with it
abbrev pub group_by : Groups → Option ℕ → ℕ
group_by groups None = groups.given + 1
group_by groups (Some group) = group

abbrev pub groups_by : Groups → Option ℕ → Groups
groups_by groups None = after_opening groups
groups_by groups (Some group) = groups
