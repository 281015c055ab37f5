use Rattle.std.proofs.Common.{◌≡◌, ◌++◌, drop}
use Rattle.plain_edits.specs.Delta.{kept_runs}
use Rattle.rev_engine.specs.Joined.{joined_runs}
use Rattle.rev_engine.proofs.short.kept_of.Given as goal

abbrev pub invariant-loop-el : goal.invariant-loop-el
invariant-loop-el l = l.made ++ joined_runs l.from l.to (kept_runs l.text (drop l.el-index l.els)) ≡ joined_runs 0 0 (kept_runs l.text l.els)
