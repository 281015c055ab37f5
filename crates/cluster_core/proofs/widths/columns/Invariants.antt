use Rattle.std.proofs.Common.{◌≡◌, ◌+◌, ◌*◌, ◌^◌, ◌≤◌, length, map}
use Rattle.std.specs.List.{concat, fold}
use Rattle.std.specs.Str.{chars}
use Rattle.unicode_segmentation.specs.Iter.{graphemes_left}
use Rattle.cluster_core.specs.Columns.{column_after, columns_between}
use Rattle.cluster_core.proofs.widths.columns.Given as goal

abbrev pub invariant-loop-cluster : goal.invariant-loop-cluster
invariant-loop-cluster l = record {
  value : fold (column_after l.tab) l.column (map chars (graphemes_left l.cluster-iterator)) ≡ columns_between l.tab (chars l.line) 0 (length (chars l.line));
  bound : l.column + 2 ^ 32 * length (concat (graphemes_left l.cluster-iterator)) ≤ 2 ^ 32 * length l.line;
}
