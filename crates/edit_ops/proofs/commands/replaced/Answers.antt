use Rattle.std.proofs.Common.{ℕ, map, sym, subst}
use Rattle.selection_core.specs.Mapped.{AreWithin}
use Rattle.edit_ops.specs.Replacements.{replaced_by}
use Rattle.edit_ops.proofs.CommandLemmas.{IsEffect-told}
use Rattle.edit_ops.proofs.commands.replaced.Goals as goal

pub replace_regions-requires-clause-inside : goal.replace_regions-requires-clause-inside
replace_regions-requires-clause-inside g c = subst (λ (base : ℕ). AreWithin base c.args.sel.now.regions) (sym c.text_end.ensures) c.requires.inside

pub returns : goal.returns
returns g c =
    IsEffect-told (g.T.TextView.text_of c.args.view.now) (map (replaced_by c.args.text.now) c.args.sel.now.regions) c.text_end.result c.replace_regions.result c.text_end.ensures
    c.replace_regions.ensures.edit c.replace_regions.ensures.regions c.replace_regions.ensures.sound c.replace_regions.ensures.inside
