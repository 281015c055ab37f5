use Rattle.std.proofs.Common.{◌≡◌, ◌++◌, drop}
use Rattle.regex_find.specs.Inner.{rest_from}
use Rattle.regex_find.proofs.replacement.rest.Given as goal

abbrev pub invariant-loop-run : goal.invariant-loop-run
invariant-loop-run l = l.kept ++ rest_from l.len l.at (drop l.run-index l.run-items) ≡ rest_from l.len 0 l.runs
