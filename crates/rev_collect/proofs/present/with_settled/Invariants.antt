use Rattle.std.proofs.Common.{◌≡◌, ◌++◌, drop, map}
use Rattle.rev_collect.specs.Present.{in_present}
use Rattle.rev_collect.proofs.present.with_settled.Given as goal

abbrev pub invariant-loop-group : goal.invariant-loop-group
invariant-loop-group l =
    l.all.items ++ map (in_present l.later) (drop l.group-index l.groups) ≡ l.initial.all.items ++ map (in_present l.later) l.groups
