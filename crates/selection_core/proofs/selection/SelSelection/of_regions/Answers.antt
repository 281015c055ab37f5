use Rattle.std.proofs.Common.{◌∙◌, ap}
use Rattle.selection_core.specs.Selection.{merged_regions}
use Rattle.selection_core.proofs.OrderLemmas.{IsSelection-sorted, selection_of-sorted}
use Rattle.selection_core.proofs.selection.SelSelection.of_regions.Goals as goal

pub returns-clause-regions : goal.returns-clause-regions
returns-clause-regions c =
    c.in_ok-merged.ensures ∙ ap merged_regions c.as_slice.ensures ∙ selection_of-sorted _ _ c.in_ok-sorted.ensures.same c.in_ok-sorted.ensures.order

pub returns-clause-sound : goal.returns-clause-sound
returns-clause-sound c = rw (c.in_ok-merged.ensures, c.as_slice.ensures) (IsSelection-sorted _ c.in_ok-sorted.ensures.order)
