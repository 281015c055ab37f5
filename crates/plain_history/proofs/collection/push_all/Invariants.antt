use Rattle.std.proofs.Common.{◌≡◌, ◌++◌, drop}
use Rattle.plain_history.proofs.collection.push_all.Given as goal

abbrev pub invariant-loop-n : goal.invariant-loop-n
invariant-loop-n l = l.made ++ drop l.n-index l.numbers ≡ l.initial.made ++ l.numbers
