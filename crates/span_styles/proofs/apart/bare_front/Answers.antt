use Rattle.std.proofs.Common.{sym, subst, ◌∙◌}
use Rattle.span_styles.specs.Inner.{IsStyleFront}
use Rattle.span_styles.proofs.ApartLemmas.{bare-front}
use Rattle.span_styles.proofs.apart.bare_front.Goals as goal

pub returns : goal.returns
returns c =
    bare-front _ c.front-front.result _ _ (subst (λ xs. IsStyleFront xs c.front-front.result) c.walk_from-walk.ensures c.front-front.ensures)
    (sym c.is_some.ensures ∙ c.if-is_some.false) c.min.ensures
