use Rattle.std.proofs.Common.{◌≡◌, fold, drop}
use Rattle.plain_text.specs.Numbers.{with_number}
use Rattle.plain_history.proofs.collection.with_numbers.Given as goal

abbrev pub invariant-loop-n : goal.invariant-loop-n
invariant-loop-n l = fold with_number l.made (drop l.n-index l.more) ≡ fold with_number l.numbers l.more
