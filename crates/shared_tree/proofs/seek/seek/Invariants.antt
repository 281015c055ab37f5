use Rattle.std.proofs.Common.{◌≡◌, ◌<◌, take}
use Rattle.shared_tree.specs.Row.{items_in, shapes}
use Rattle.shared_tree.proofs.seek.seek.Given as goal

abbrev pub invariant-loop-i : goal.invariant-loop-i
invariant-loop-i g l = record {
  sum : l.sum ≡ g.L.Sum.Summary.plus l.fn.before (g.L.Leaf.summed (items_in g.L.Leaf (shapes (take l.i l.row))));
  passed : g.M.Measure.width l.measure l.sum < l.at;
}
