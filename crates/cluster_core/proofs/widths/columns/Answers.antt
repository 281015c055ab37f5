use Rattle.std.proofs.Common.{length, true, ap, sym, ◌∙◌, arith}
use Rattle.std.specs.List.{fold}
use Rattle.unicode_segmentation.specs.Grapheme.{is_grapheme_break}
use Rattle.unicode_segmentation.proofs.SegmentsLemmas.{concat-segments}
use Rattle.cluster_core.specs.Columns.{column_after}
use Rattle.cluster_core.proofs.ColumnLemmas.{clusters_in-chars, columns_between-whole}
use Rattle.cluster_core.proofs.widths.columns.Goals as goal

pub loop-cluster-init : goal.loop-cluster-init
loop-cluster-init c =
    let whole = ap length (concat-segments (is_grapheme_break true) _ c.utf8.line) in
    let own = ap (fold (column_after c.args.tab) 0) (sym (clusters_in-chars c.args.line.now c.utf8.line)) ∙ sym (columns_between-whole c.args.tab c.args.line.now c.utf8.line) in
    rw (c.into_iter-cluster-iterator.ensures.into_iter_gives, c.graphemes-cluster-items.ensures.left) (record { value = own; bound = omega arith })
