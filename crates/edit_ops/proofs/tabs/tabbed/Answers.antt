use Rattle.std.proofs.Common.{ℕ, sym, subst}
use Rattle.std.specs.Prelude.{IfOk}
use Rattle.selection_core.specs.Mapped.{AreWithin}
use Rattle.selection_core.specs.Selection.{lesser_end}
use Rattle.edit_ops.specs.Commands.{IsEffect, editing, tab_text}
use Rattle.edit_ops.proofs.CommandLemmas.{IsEffect-told}
use Rattle.edit_ops.proofs.RegionLemmas.{AreInOrder-regions}
use Rattle.edit_ops.proofs.tabs.tabbed.Goals as goal

pub replace-requires : goal.replace-requires
replace-requires g c =
    rw c.in_ok-tabs.ensures
    (AreInOrder-regions c.text_end.result (λ region. tab_text c.args.config.now (g.T.TextView.text_of c.args.view.now) (g.T.TextView.pieces_of c.args.view.now) (lesser_end region)) c.args.sel.now.regions c.requires.sound
    (subst (λ (base : ℕ). AreWithin base c.args.sel.now.regions) (sym c.text_end.ensures) c.requires.inside))

pub returns : goal.returns
returns g c =
    subst (λ tabs. IfOk c.replace.result (λ made. IsEffect (g.T.TextView.text_of c.args.view.now) (editing tabs) made.0 made.1.regions)) c.in_ok-tabs.ensures
    (IsEffect-told (g.T.TextView.text_of c.args.view.now) c.in_ok-tabs.tabs c.text_end.result c.replace.result c.text_end.ensures
    c.replace.ensures.edit c.replace.ensures.regions c.replace.ensures.sound c.replace.ensures.inside)
