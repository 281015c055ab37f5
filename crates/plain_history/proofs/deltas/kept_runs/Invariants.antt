use Rattle.std.proofs.Common.{◌≡◌, ◌++◌, drop}
use Rattle.plain_edits.specs.Delta.{kept_runs}
use Rattle.plain_history.proofs.deltas.kept_runs.Given as goal

abbrev pub invariant-loop-el : goal.invariant-loop-el
invariant-loop-el l = l.made ++ kept_runs l.text (drop l.el-index l.els) ≡ kept_runs l.text l.els
