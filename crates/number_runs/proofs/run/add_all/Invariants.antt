use Rattle.std.proofs.Common.{drop}
use Rattle.number_runs.proofs.JoinLemmas.{IsTaking}
use Rattle.number_runs.proofs.run.add_all.Given as goal

abbrev pub invariant-loop-run : goal.invariant-loop-run
invariant-loop-run l = IsTaking l.fn.runs.items l.runs.items l.more (drop l.run-index l.more)
