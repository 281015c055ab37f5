use Rattle.std.proofs.Common.{◌≡◌, ◌++◌, take, drop}
use Rattle.std.specs.Vec.Iter.{into_iter_items}
use Rattle.line_cache.proofs.ops.taken.Given as goal

abbrev pub invariant-loop-left : goal.invariant-loop-left
invariant-loop-left l = record {
  lines : l.lines ++ take l.left (into_iter_items l.rest) ≡ take l.fn.n (into_iter_items l.fn.rest);
  rest : drop l.left (into_iter_items l.rest) ≡ drop l.fn.n (into_iter_items l.fn.rest);
}

abbrev pub decreases-loop-left : goal.decreases-loop-left
decreases-loop-left l = l.left
