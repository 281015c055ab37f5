use Rattle.std.proofs.Common.{◌≡◌, ◌-◌, ◌++◌, length, take, drop}
use Rattle.rope_node.specs.Node.{text_of}
use Rattle.rope_tree.proofs.rope.between.Given as goal

abbrev pub invariant-loop-chunk : goal.invariant-loop-chunk
invariant-loop-chunk l = record {
  same : l.walk.tree ≡ l.tree;
  made : l.text ++ take l.left (drop l.walk.at (text_of l.tree)) ≡ take (l.to - l.from) (drop l.from (text_of l.tree));
}

abbrev pub decreases-loop-chunk : goal.decreases-loop-chunk
decreases-loop-chunk l = length (drop l.walk.at (text_of l.walk.tree))
