use Rattle.std.proofs.Common.{ap, ap₂, sym, subst, ◌∙◌}
use Rattle.std.specs.Prelude.{min}
use Rattle.doc_view.specs.Front.{KeepsFront}
use Rattle.doc_view.specs.Inner.{first_end, first_gap}
use Rattle.doc_view.proofs.FrontLemmas.{KeepsFront-first}
use Rattle.doc_view.proofs.front.kept_front.Goals as goal

pub returns : goal.returns
returns c =
    subst (KeepsFront c.args.units.now)
    (sym (c.min.ensures ∙
    ap₂ min (c.first_end-end.ensures ∙ ap first_end c.as_slice.ensures) (c.first_gap.ensures ∙ ap (first_gap c.args.units.now.base) c.as_slice-2.ensures)))
    (KeepsFront-first c.args.units.now c.requires)
