use Rattle.std.proofs.Common.{length, map, true, ap, sym, ◌∙◌, arith}
use Rattle.std.specs.List.{fold}
use Rattle.std.specs.Str.{chars}
use Rattle.unicode_segmentation.specs.Iter.{graphemes_left}
use Rattle.unicode_segmentation.specs.Grapheme.{is_grapheme_break}
use Rattle.unicode_segmentation.proofs.SegmentsLemmas.{concat-segments}
use Rattle.cluster_core.specs.Columns.{clipped, column_after}
use Rattle.cluster_core.proofs.ColumnLemmas.{clusters_in-chars, clipped-past}
use Rattle.cluster_core.proofs.widths.columns_between.Goals as goal

pub loop-cluster-init : goal.loop-cluster-init
loop-cluster-init c =
    let whole = ap length (concat-segments (is_grapheme_break true) _ c.utf8.line) in
    let own = ap (λ cs. fold (column_after c.args.tab) 0 (clipped c.args.from c.args.to 0 cs)) (sym (clusters_in-chars c.args.line.now c.utf8.line)) in
    rw (c.into_iter-cluster-iterator.ensures.into_iter_gives, c.graphemes-cluster-items.ensures.left) (record { value = own; bound = omega arith; room = omega arith })

pub returns-then-to-gap-clause-value : goal.returns-then-to-gap-clause-value
returns-then-to-gap-clause-value c =
    sym (clipped-past c.args.tab c.loop-cluster.column c.args.from c.args.to c.loop-cluster.gap (map chars (graphemes_left c.loop-cluster.cluster-iterator)) c.if-to-gap.true) ∙
    c.loop-cluster.invariant.value
