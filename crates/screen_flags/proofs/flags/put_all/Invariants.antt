use Rattle.std.proofs.Common.{◌≡◌, ◌++◌, replicate}
use Rattle.screen_flags.proofs.flags.put_all.Given as goal

abbrev pub invariant-loop : goal.invariant-loop
invariant-loop l = l.made.items ≡ l.fn.made.items ++ replicate l.counter l.flag
