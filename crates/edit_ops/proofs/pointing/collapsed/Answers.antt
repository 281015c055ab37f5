use Rattle.std.proofs.Common.{ap, length, refl, sym}
use Rattle.selection_core.specs.Selection.{caret_of, last_caret}
use Rattle.edit_ops.proofs.SelectedLemmas.{AreSelected-one, last_caret-inside}
use Rattle.edit_ops.proofs.pointing.collapsed.Goals as goal

pub returns-then-is_empty : goal.returns-then-is_empty
returns-then-is_empty g c =
    AreSelected-one (g.T.TextView.text_of c.args.view.now) (caret_of (last_caret c.args.sel.now.regions)) (caret_of 0) c.caret_at.result
    (ap (λ regions. caret_of (last_caret regions)) (sym (c.is_empty.ensures.0 c.if-is_empty.true)))
    (last_caret-inside (length (g.T.TextView.text_of c.args.view.now)) c.args.sel.now.regions c.requires.inside) c.caret_at.ensures.regions

pub returns : goal.returns
returns g c =
    AreSelected-one (g.T.TextView.text_of c.args.view.now) (caret_of (last_caret c.args.sel.now.regions)) _ c.collapse.result refl
    (last_caret-inside (length (g.T.TextView.text_of c.args.view.now)) c.args.sel.now.regions c.requires.inside) c.collapse.ensures.regions
