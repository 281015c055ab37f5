use Rattle.std.proofs.Common.{map, subst}
use Rattle.std.specs.Prelude.{IfOk}
use Rattle.edit_ops.specs.Commands.{IsEffect, editing}
use Rattle.edit_ops.specs.Replacements.{replaced_by}
use Rattle.edit_ops.proofs.commands.broken.Goals as goal

pub returns : goal.returns
returns g c =
    subst (λ feed. IfOk c.replaced.result (λ made. IsEffect (g.T.TextView.text_of c.args.view.now) (editing (map (replaced_by feed) c.args.sel.now.regions)) made.0 made.1.regions))
    c.in_ok-feed.ensures.made c.replaced.ensures
