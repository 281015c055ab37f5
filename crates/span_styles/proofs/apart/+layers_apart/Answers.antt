use Rattle.std.proofs.Common.{length, ap, arith}
use Rattle.span_styles.proofs.ApartLemmas.{AreApartFrom-parts, AreApartFrom-shorter}
use Rattle.span_styles.proofs.apart.+layers_apart.Goals as goal

pub returns-in_default : goal.returns-in_default
returns-in_default t c = AreApartFrom-shorter _ _ (λ same. omega (arith, ap length same, c.in-empty.len_below, c.in_default.len_at_least))

pub returns-in-empty-others-2 : goal.returns-in-empty-others-2
returns-in-empty-others-2 t c =
    AreApartFrom-shorter _ _ (λ same. omega (arith, ap length same, c.in-len1-up.len_at_least, c.in-empty-others-2.len_below))

pub returns-in-len1-up-others : goal.returns-in-len1-up-others
returns-in-len1-up-others t c =
    AreApartFrom-parts _ _ _ _ _ c.layer-item.result c.other-item.result c.in-len1-up.len_at_least c.in-len1-up-others.len_at_least c.layer-item.is
    c.other-item.is c.apart_from.ensures c.layers_apart.ensures c.least.ensures
