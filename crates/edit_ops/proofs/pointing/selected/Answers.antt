use Rattle.edit_ops.proofs.SelectedLemmas.{AreSelected-all}
use Rattle.edit_ops.proofs.pointing.selected.Goals as goal

pub returns-in-Move : goal.returns-in-Move
returns-in-Move g c =
    rw c.in-Move.is (AreSelected-all (g.T.TextView.text_of c.args.view.now) _ c.moved.result c.moved.ensures.regions c.moved.ensures.sound c.moved.ensures.inside)
