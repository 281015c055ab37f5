use Rattle.std.proofs.Common.{map, ap, ◌∙◌}
use Rattle.selection_core.specs.Selection.{caret_of, selection_of}
use Rattle.edit_ops.specs.Inner.{kept_from}
use Rattle.edit_ops.specs.Replacements.{gap_with}
use Rattle.edit_ops.proofs.OrderLemmas.{IsEditOf-parts}
use Rattle.edit_ops.proofs.SelectionLemmas.{AreWithin-carets_with}
use Rattle.edit_ops.proofs.editing.replace.Goals as goal

pub returns-clause-edit : goal.returns-clause-edit
returns-clause-edit c =
    IsEditOf-parts c.args.base c.args.replacements _ _ c.requires (c.in_ok-kept.ensures ∙ ap (kept_from c.args.base 0) c.as_slice-all.ensures)
    c.in_ok-added.ensures

pub returns-clause-inside : goal.returns-clause-inside
returns-clause-inside c =
    AreWithin-carets_with c.args.base c.args.replacements _ c.requires
    (c.in_ok-sel.ensures.regions ∙
    ap selection_of (c.in_ok-carets.ensures ∙ ap (λ rs. map (λ r. caret_of (gap_with rs r.range.start)) rs) c.as_slice-all.ensures))
