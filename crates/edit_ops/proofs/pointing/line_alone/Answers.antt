use Rattle.std.proofs.Common.{length, subst}
use Rattle.std.specs.Prelude.{◌≤◌}
use Rattle.selection_core.specs.Selection.{greater_end}
use Rattle.edit_ops.proofs.SelectedLemmas.{AreSelected-one}
use Rattle.edit_ops.proofs.pointing.line_alone.Goals as goal

pub returns : goal.returns
returns g c =
    AreSelected-one (g.T.TextView.text_of c.args.view.now) _ c.line_region-line.result c.alone.result c.line_region-line.ensures.value
    (subst (λ region. greater_end region ≤ length (g.T.TextView.text_of c.args.view.now)) c.line_region-line.ensures.value c.line_region-line.ensures.inside) c.alone.ensures
