use Rattle.std.proofs.Common.{subst, ◌≡◌, ◌∙◌}
use Rattle.std.specs.Prelude.{IfOk}
use Rattle.std.proofs.lemmas.Result.{IfOk-weaker}
use Rattle.selection_core.specs.Mapped.{AreWithin}
use Rattle.edit_ops.specs.Replacements.{IsEditOf, carets_with, gap_with}
use Rattle.edit_ops.proofs.DeletionLemmas.{AreInOrder-sorted, AreWithin-moved, IsEditOf-moved, carets_with-moved}
use Rattle.edit_ops.proofs.deleting.delete.Goals as goal

pub replace-requires : goal.replace-requires
replace-requires c =
    rw c.in_ok-replacements.ensures (AreInOrder-sorted c.args.ranges _ c.in_ok-sorted.ensures.same c.args.base c.in_ok-sorted.ensures.order c.requires.inside)

pub returns-clause-edit : goal.returns-clause-edit
returns-clause-edit c =
    IfOk-weaker c.replace.result _ _ (λ made is. IsEditOf-moved c.args.ranges c.in_ok-sorted.sorted c.in_ok-sorted.ensures.same c.args.base made.0 is)
    (subst (λ all. IfOk c.replace.result (λ made. IsEditOf c.args.base all made.0)) c.in_ok-replacements.ensures c.replace.ensures.edit)

pub returns-clause-regions : goal.returns-clause-regions
returns-clause-regions c =
    IfOk-weaker c.replace.result _ _
    (λ made is. is ∙ carets_with-moved c.args.ranges c.in_ok-sorted.sorted c.in_ok-sorted.ensures.same c.order_does_not_matter.ensures)
    (subst (λ all. IfOk c.replace.result (λ made. made.1.regions ≡ carets_with all)) c.in_ok-replacements.ensures c.replace.ensures.regions)

pub returns-clause-inside : goal.returns-clause-inside
returns-clause-inside c =
    IfOk-weaker c.replace.result _ _
    (λ made is. AreWithin-moved c.args.ranges c.in_ok-sorted.sorted c.in_ok-sorted.ensures.same c.args.base made.1.regions is)
    (subst (λ all. IfOk c.replace.result (λ made. AreWithin (gap_with all c.args.base) made.1.regions)) c.in_ok-replacements.ensures c.replace.ensures.inside)
