use Rattle.std.proofs.Common.{◌≡◌, take}
use Rattle.plain_text.specs.Numbers.{flipped}
use Rattle.number_set.proofs.set.NumberSet.flipped.Given as goal

abbrev pub invariant-loop-number : goal.invariant-loop-number
invariant-loop-number l = record { so_far : l.made ≡ flipped l.self (take l.number-index l.others) }
