use Rattle.std.proofs.Common.{ap, arith}
use Rattle.selection_core.specs.Selection.{caret_of}
use Rattle.edit_ops.specs.Points.{start_of_numbered}
use Rattle.edit_ops.proofs.SelectedLemmas.{AreSelected-one}
use Rattle.edit_ops.proofs.pointing.at_line.Goals as goal

pub returns : goal.returns
returns g c =
    let inside = c.start_of_line.ensures.inside in
    AreSelected-one (g.T.TextView.text_of c.args.view.now) (caret_of (start_of_numbered (g.T.TextView.text_of c.args.view.now) c.args.line)) _ c.caret_at.result (ap caret_of c.start_of_line.ensures.value)
    (omega (arith, c.start_of_line.ensures.value)) c.caret_at.ensures.regions
