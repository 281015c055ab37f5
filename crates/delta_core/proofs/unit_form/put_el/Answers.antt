use Rattle.std.proofs.Common.{[], ◌∷◌, arith, ap, sym, ◌∙◌}
use Rattle.plain_edits.specs.Delta.{copies_misfit}
use Rattle.delta_core.proofs.UnitLemmas.{CopyFits-from, gap_of-le}
use Rattle.delta_core.proofs.unit_form.put_el.Goals as goal

pub pass-requires : goal.pass-requires
pass-requires c =
    let text = c.args.text.now in
    let good = CopyFits-from text c.args.at c.in-Copy.a c.in-Copy.b [] (ap (λ e. copies_misfit text c.args.at (e ∷ [])) (sym c.in-Copy.is) ∙ c.requires.fits) in
    omega (arith, gap_of-le text c.in-Copy.a good.0.start, c.gaps_between.ensures, c.requires.base)

pub keep-requires : goal.keep-requires
keep-requires c =
    let text = c.args.text.now in
    let good = CopyFits-from text c.args.at c.in-Copy.a c.in-Copy.b [] (ap (λ e. copies_misfit text c.args.at (e ∷ [])) (sym c.in-Copy.is) ∙ c.requires.fits) in
    omega (arith, gap_of-le text c.in-Copy.b good.0.stop, c.gaps_between.ensures, c.gaps_between-in-Copy.ensures, c.requires.base, c.in_ok-pass-in-Copy.ensures.base)
