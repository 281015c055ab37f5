use Rattle.selection_core.specs.Selection.{IsSelection}
use Rattle.edit_cases.proofs.selections.selection.Given as goal

abbrev pub invariant-loop-row : goal.invariant-loop-row
invariant-loop-row l = IsSelection l.sel.regions
