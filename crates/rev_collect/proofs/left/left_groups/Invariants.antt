use Rattle.std.proofs.Common.{◌≡◌, ◌++◌, drop, map, not}
use Rattle.std.specs.List.{filter}
use Rattle.plain_text.specs.Numbers.{has}
use Rattle.rev_collect.specs.Groups.{shrunk}
use Rattle.rev_collect.proofs.left.left_groups.Given as goal

abbrev pub invariant-loop-group : goal.invariant-loop-group
invariant-loop-group l =
    l.left.items ++ map (shrunk l.dropped) (filter (λ g. not (has l.collected.keys g.group)) (drop l.group-index l.groups)) ≡
    map (shrunk l.dropped) (filter (λ g. not (has l.collected.keys g.group)) l.groups)
