use Rattle.std.proofs.Common.{◌≡◌, ◌++◌, length}
use Rattle.match_index.specs.Inner.{strides_under}
use Rattle.match_index.proofs.tree.put.Given as goal

abbrev pub invariant-loop-rest : goal.invariant-loop-rest
invariant-loop-rest l = record {
  made : strides_under l.tree ++ l.rest ≡ strides_under l.fn.tree ++ l.numbers;
}

abbrev pub decreases-loop-rest : goal.decreases-loop-rest
decreases-loop-rest l = length l.rest
