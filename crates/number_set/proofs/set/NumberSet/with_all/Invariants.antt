use Rattle.std.proofs.Common.{◌≡◌, ◌+◌, ◌≤◌, take, fold, length}
use Rattle.plain_text.specs.Numbers.{with_number}
use Rattle.number_set.proofs.set.NumberSet.with_all.Given as goal

abbrev pub invariant-loop-number : goal.invariant-loop-number
invariant-loop-number l = record {
  made : l.made ≡ fold with_number l.self (take l.number-index l.more);
  len : length l.made ≤ length l.self + l.number-index;
}
