use Rattle.std.proofs.Common.{◌≡◌, ◌↔◌, drop}
use Rattle.std.specs.List.{AllByRecursion}
use Rattle.plain_text.specs.Numbers.{has}
use Rattle.plain_edits.specs.History.{head, undone}
use Rattle.plain_history.proofs.undo.all_frozen.Given as goal

abbrev pub invariant-loop-group : goal.invariant-loop-group
invariant-loop-group l =
    AllByRecursion (λ group. has l.groups group ≡ has (undone l.history.revisions (head l.history)) group) (drop l.group-index l.group-items) ↔
    AllByRecursion (λ group. has l.groups group ≡ has (undone l.history.revisions (head l.history)) group) l.history.collected
