use Rattle.std.proofs.Common.{◌≡◌, take}
use Rattle.rev_list.proofs.groups.listed.Given as goal

abbrev pub invariant-loop-index : goal.invariant-loop-index
invariant-loop-index l = l.numbers.items ≡ take l.index l.groups
