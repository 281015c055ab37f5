use Rattle.std.proofs.Common.{arith}
use Rattle.span_styles.proofs.ShowLemmas.{IsShowing-next, which_min}
use Rattle.span_styles.proofs.layer.push_spans.Goals as goal

pub loop-at-preserved : goal.loop-at-preserved
loop-at-preserved c =
    IsShowing-next _ _ _ _ c.loop-at.at c.args.range.end c.min-len.result c.front-front.result.len c.front-front.result.style _ c.loop-at.invariant
    (omega (arith, c.front-front.ensures.some)) (omega arith) (omega arith) (which_min _ _ _ c.min-len.ensures) c.front-front.ensures.same
    c.front-front.ensures.longest c.in_ok-push_span.ensures c.skip.ensures
