use Rattle.std.proofs.Common.{length, true, refl, zero-add, ap, ◌∙◌}
use Rattle.unicode_segmentation.specs.Grapheme.{is_grapheme_break}
use Rattle.unicode_segmentation.proofs.SegmentsLemmas.{concat-segments}
use Rattle.cluster_core.proofs.boundaries.clusters.Goals as goal

pub loop-cluster-init : goal.loop-cluster-init
loop-cluster-init c =
    rw (c.into_iter-cluster-iterator.ensures.into_iter_gives, c.graphemes-cluster-items.ensures.left, c.new-ends.ensures.items)
    (record { bytes = zero-add _ ∙ ap length (concat-segments (is_grapheme_break true) _ c.utf8.line); ends = refl })
