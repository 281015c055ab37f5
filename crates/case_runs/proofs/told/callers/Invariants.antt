use Rattle.std.proofs.Common.{◌≡◌, ◌++◌, drop}
use Rattle.case_runs.specs.Told.{callers_in}
use Rattle.case_runs.proofs.told.callers.Given as goal

abbrev pub invariant-loop-entry : goal.invariant-loop-entry
invariant-loop-entry l = l.told ++ callers_in (drop l.entry-index l.entries) ≡ callers_in l.entries
