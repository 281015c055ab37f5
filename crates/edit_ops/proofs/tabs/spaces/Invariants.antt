use Rattle.std.proofs.Common.{◌≡◌, ◌++◌, replicate}
use Rattle.edit_ops.proofs.tabs.spaces.Given as goal

abbrev pub invariant-loop-left : goal.invariant-loop-left
invariant-loop-left l = l.text ++ replicate l.left 32 ≡ replicate l.count 32

abbrev pub decreases-loop-left : goal.decreases-loop-left
decreases-loop-left l = l.left
