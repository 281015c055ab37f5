use Rattle.std.proofs.Common.{ℕ, map, sym, subst}
use Rattle.std.specs.Prelude.{false, IfOk}
use Rattle.selection_core.specs.Mapped.{AreWithin}
use Rattle.movement_core.specs.Motions.{target}
use Rattle.edit_ops.specs.Commands.{IsEffect, editing}
use Rattle.edit_ops.specs.Replacements.{deleted_range, deletion_of}
use Rattle.edit_ops.proofs.CommandLemmas.{IsEffect-told, deletions-reached}
use Rattle.edit_ops.proofs.commands.deleted.Goals as goal

pub delete_to-requires-clause-inside : goal.delete_to-requires-clause-inside
delete_to-requires-clause-inside g c = subst (λ (base : ℕ). AreWithin base c.args.sel.now.regions) (sym c.text_end.ensures) c.requires.inside

pub returns : goal.returns
returns g c =
    let text = g.T.TextView.text_of c.args.view.now in
    let pieces = g.T.TextView.pieces_of c.args.view.now in
    subst (λ rs. IfOk c.delete_to.result (λ made. IsEffect text (editing rs) made.0 made.1.regions))
    (deletions-reached c.args.tab text pieces c.args.motion c.args.sel.now.regions c.requires.motion)
    (IsEffect-told text (map deletion_of (map (λ region. deleted_range (target c.args.tab text pieces c.args.motion false region) region) c.args.sel.now.regions))
    c.text_end.result c.delete_to.result c.text_end.ensures
    c.delete_to.ensures.edit c.delete_to.ensures.regions c.delete_to.ensures.sound c.delete_to.ensures.inside)
