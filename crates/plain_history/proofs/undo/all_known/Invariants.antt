use Rattle.std.proofs.Common.{◌≡◌, ◌<◌, ◌↔◌, drop, true}
use Rattle.std.specs.List.{AllByRecursion, list_any}
use Rattle.plain_edits.specs.Edits.{is_edit_of}
use Rattle.plain_history.proofs.undo.all_known.Given as goal

abbrev pub invariant-loop-group : goal.invariant-loop-group
invariant-loop-group l =
    AllByRecursion (λ group. (0 < group) × (list_any (is_edit_of group) l.history.revisions ≡ true)) (drop l.group-index l.groups) ↔
    AllByRecursion (λ group. (0 < group) × (list_any (is_edit_of group) l.history.revisions ≡ true)) l.groups
