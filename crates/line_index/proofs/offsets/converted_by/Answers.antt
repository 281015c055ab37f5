use Rattle.std.proofs.Common.{subst}
use Rattle.std.specs.Prelude.{IfNone, IfSome}
use Rattle.rope_metrics.specs.Measure.{HasNone, IsConverted}
use Rattle.line_index.proofs.offsets.converted_by.Goals as goal

pub returns-clause-some : goal.returns-clause-some
returns-clause-some g c =
    subst (λ t. IfSome c.convert.result (λ offset. IsConverted c.args.from c.args.to t c.args.at offset)) c.node.ensures c.convert.ensures.some

pub returns-clause-none : goal.returns-clause-none
returns-clause-none g c = subst (λ t. IfNone c.convert.result (HasNone c.args.from t c.args.at)) c.node.ensures c.convert.ensures.none
