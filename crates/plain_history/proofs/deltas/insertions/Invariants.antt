use Rattle.std.proofs.Common.{◌≡◌, ◌++◌, drop}
use Rattle.plain_edits.specs.Delta.{insertions}
use Rattle.plain_history.proofs.deltas.insertions.Given as goal

abbrev pub invariant-loop-el : goal.invariant-loop-el
invariant-loop-el l = l.made ++ insertions l.text l.gap (drop l.el-index l.els) ≡ insertions l.text 0 l.els
