use Rattle.std.proofs.Common.{◌≡◌, rules}
use Rattle.span_styles.proofs.ApartLemmas.{apart-lengths, AreAhead-next}
use Rattle.span_styles.proofs.apart.runs_apart.Goals as goal

pub returns-then-front-next : goal.returns-then-front-next
returns-then-front-next c =
    let style : c.front-front.result.style ≡ c.front-next.result.style = search rules in
    apart-lengths _ _ _ _ _ c.loop-counterpart.invariant c.front-front.result c.front-next.result _ c.front-front.ensures c.front-next.ensures style
    c.if-front-next.true c.min-len.ensures

pub loop-counterpart-preserved : goal.loop-counterpart-preserved
loop-counterpart-preserved c =
    let style : c.front-front.result.style ≡ c.front-next.result.style = search rules in
    AreAhead-next _ _ _ _ _ c.loop-counterpart.invariant c.front-front.result c.front-next.result _ _ _ c.front-front.ensures c.front-next.ensures style
    c.if-front-next.false c.min-len.ensures c.skip.ensures c.skip-in-loop-counterpart.ensures
