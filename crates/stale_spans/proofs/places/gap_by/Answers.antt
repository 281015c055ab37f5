use Rattle.std.proofs.Common.{subst}
use Rattle.std.specs.Prelude.{IfNone, IfSome}
use Rattle.rope_metrics.specs.declared.measure.Measure.TheVariants.{Bytes, Chars}
use Rattle.rope_metrics.specs.Measure.{HasNone, IsConverted}
use Rattle.stale_spans.proofs.GapLemmas.{gap_at-converted}
use Rattle.stale_spans.proofs.places.gap_by.Goals as goal

pub returns : goal.returns
returns g c =
    gap_at-converted c.args.text.now c.args.at c.convert.result
    (subst (λ t. IfSome c.convert.result (λ offset. IsConverted Bytes Chars t c.args.at offset)) c.node.ensures c.convert.ensures.some)
    (subst (λ t. IfNone c.convert.result (HasNone Bytes t c.args.at)) c.node.ensures c.convert.ensures.none)
