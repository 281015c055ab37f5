use Rattle.std.proofs.Common.{◌≡◌, ◌++◌, drop, map}
use Rattle.rev_collect.specs.Joined.{blank}
use Rattle.rev_collect.proofs.join.blank_groups.Given as goal

abbrev pub invariant-loop-index : goal.invariant-loop-index
invariant-loop-index l = l.groups.items ++ map (blank l.len) (drop l.index l.numbers) ≡ map (blank l.len) l.numbers
