use Rattle.std.proofs.Common.{◌≡◌, ◌+◌, ◌++◌, length}
use Rattle.std.specs.List.{concat}
use Rattle.unicode_segmentation.specs.Iter.{graphemes_left}
use Rattle.cluster_core.specs.Boundaries.{ends_from, ends_of}
use Rattle.cluster_core.proofs.boundaries.clusters.Given as goal

abbrev pub invariant-loop-cluster : goal.invariant-loop-cluster
invariant-loop-cluster l = record {
  bytes : l.end + length (concat (graphemes_left l.cluster-iterator)) ≡ length l.line;
  ends : l.ends.items ++ ends_from l.end (graphemes_left l.cluster-iterator) ≡ ends_of l.line;
}
