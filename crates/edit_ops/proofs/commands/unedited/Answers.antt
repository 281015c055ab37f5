use Rattle.std.proofs.Common.{[], ℕ, subst}
use Rattle.edit_ops.specs.Replacements.{IsEditOf}
use Rattle.edit_ops.proofs.CommandLemmas.{IsEffect-selected}
use Rattle.edit_ops.proofs.commands.unedited.Goals as goal

pub returns : goal.returns
returns g c =
    IsEffect-selected c.args.config.now (g.T.TextView.text_of c.args.view.now) (g.T.TextView.pieces_of c.args.view.now) c.args.sel.now.regions c.args.act.now c.in_ok-kept.kept c.in_ok-after.after.regions c.requires.act
    (subst (λ (base : ℕ). IsEditOf base [] c.in_ok-kept.kept) c.text_end.ensures c.in_ok-kept.ensures) c.in_ok-after.ensures
