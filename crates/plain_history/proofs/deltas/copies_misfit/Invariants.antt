use Rattle.std.proofs.Common.{◌≡◌, drop}
use Rattle.plain_edits.specs.Delta.{copies_misfit}
use Rattle.plain_history.proofs.deltas.copies_misfit.Given as goal

abbrev pub invariant-loop-el : goal.invariant-loop-el
invariant-loop-el l = copies_misfit l.text l.end (drop l.el-index l.els) ≡ copies_misfit l.text 0 l.els
