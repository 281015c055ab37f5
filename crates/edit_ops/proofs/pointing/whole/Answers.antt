use Rattle.std.proofs.Common.{ℕ, ap, arith, length}
use Rattle.std.specs.Prelude.{true}
use Rattle.selection_core.specs.Selection.{spanning}
use Rattle.edit_ops.proofs.SelectedLemmas.{AreSelected-one}
use Rattle.edit_ops.proofs.pointing.whole.Goals as goal

pub returns : goal.returns
returns g c =
    AreSelected-one (g.T.TextView.text_of c.args.view.now) (spanning true 0 (length (g.T.TextView.text_of c.args.view.now))) _ c.alone.result (ap (λ (n : ℕ). spanning true 0 n) c.text_end.ensures) (omega arith) c.alone.ensures
