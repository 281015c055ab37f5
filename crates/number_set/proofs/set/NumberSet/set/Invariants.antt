use Rattle.std.proofs.Common.{◌≡◌, take}
use Rattle.number_set.proofs.set.NumberSet.set.Given as goal

abbrev pub invariant-loop-index : goal.invariant-loop-index
invariant-loop-index l = l.set.keys ≡ take l.index l.self
