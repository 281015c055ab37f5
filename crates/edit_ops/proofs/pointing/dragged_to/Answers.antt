use Rattle.std.proofs.Common.{ℕ, length, subst}
use Rattle.std.specs.Prelude.{IfOk}
use Rattle.edit_ops.specs.Inner.{AreSelected}
use Rattle.edit_ops.specs.Regions.{dragged}
use Rattle.edit_ops.proofs.SelectedLemmas.{AreSelected-told, AreWithin-dragged}
use Rattle.edit_ops.proofs.pointing.dragged_to.Goals as goal

pub returns : goal.returns
returns g c =
    subst (λ (gap : ℕ). IfOk c.drag.result (λ after. AreSelected (g.T.TextView.text_of c.args.view.now) (dragged gap c.args.sel.now.regions) after.regions)) c.in_ok-gap.ensures.value
    (AreSelected-told (g.T.TextView.text_of c.args.view.now) (dragged c.in_ok-gap.gap c.args.sel.now.regions) c.drag.result
    (AreWithin-dragged (length (g.T.TextView.text_of c.args.view.now)) c.in_ok-gap.gap c.args.sel.now.regions c.in_ok-gap.ensures.inside c.requires.inside)
    c.drag.ensures.regions c.drag.ensures.sound)
