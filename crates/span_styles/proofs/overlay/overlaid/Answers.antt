use Rattle.std.proofs.Common.{◌≡◌, ◌++◌, replicate, ap, ◌∙◌, arith}
use Rattle.span_styles.proofs.OverlayLemmas.{IsOverlaying-next, front_within}
use Rattle.span_styles.proofs.overlay.overlaid.Goals as goal

pub loop-upper-preserved : goal.loop-upper-preserved
loop-upper-preserved c =
    let within = front_within c.front-front.result.len _ c.front-front.result.style c.front-front.ensures.same in
    let pushed : c.push.new.self ≡ c.loop-upper.made ++ replicate c.min-len.result c.style_over.result = c.in_ok-push.ensures in
    IsOverlaying-next _ _ _ _ _ _ _ c.min-len.result c.front-front.result.len c.front-other.result.len c.front-front.result.style c.front-other.result.style
    c.loop-upper.invariant (omega arith) (omega arith) (omega arith) c.front-front.ensures.same c.front-other.ensures.same
    (pushed ∙ ap (λ style. c.loop-upper.made ++ replicate c.min-len.result style) c.style_over.ensures) c.skip.ensures c.skip-in-loop-upper.ensures
