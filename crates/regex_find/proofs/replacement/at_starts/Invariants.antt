use Rattle.std.proofs.Common.{◌≡◌, ◌++◌, drop}
use Rattle.regex_find.specs.Inner.{at_starts}
use Rattle.regex_find.proofs.replacement.at_starts.Given as goal

abbrev pub invariant-loop-run : goal.invariant-loop-run
invariant-loop-run l = l.added ++ at_starts l.with (drop l.run-index l.run-items) ≡ at_starts l.with l.runs
