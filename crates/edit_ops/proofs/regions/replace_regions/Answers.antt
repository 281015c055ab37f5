use Rattle.std.proofs.Common.{subst}
use Rattle.std.specs.Prelude.{IfOk}
use Rattle.selection_core.specs.Mapped.{AreWithin}
use Rattle.edit_ops.specs.Replacements.{gap_with}
use Rattle.edit_ops.proofs.RegionLemmas.{AreInOrder-regions}
use Rattle.edit_ops.proofs.regions.replace_regions.Goals as goal

pub replace-requires : goal.replace-requires
replace-requires c =
    rw c.in_ok-replacements.ensures (AreInOrder-regions c.args.base (λ region. c.args.text.now) c.args.sel.now.regions c.requires.sound c.requires.inside)

pub returns-clause-inside : goal.returns-clause-inside
returns-clause-inside c =
    subst (λ all. IfOk c.replace.result (λ made. AreWithin (gap_with all c.args.base) made.1.regions)) c.in_ok-replacements.ensures c.replace.ensures.inside
