-- Laws: selections and histories, and regions in another order.
use Rattle.std.specs.Prelude.{◌≡◌, ℕ, Bool, List}
use Rattle.std.specs.List.Sorted.{IsPermutation}
use Rattle.plain_text.specs.declared.selection.Region.{Region}
use Rattle.plain_edits.specs.declared.delta.UnitDelta.{UnitDelta}
use Rattle.plain_edits.specs.UnitDelta.{unit_keeps, unit_adds}
use Rattle.plain_edits.specs.History.{History, head, IsSound}
use Rattle.plain_edits.specs.HistorySteps.{Step, after_step}
use Rattle.plain_edits.specs.Change.{change_keeps, change_adds}
use Rattle.plain_edits.specs.Caret.{moved_regions}
use Rattle.selection_core.specs.Selection.{merged_regions, selection_of}
use Rattle.selection_core.specs.Mapped.{mapped_regions}

-- a selection that is taken over the change of a step, whatever step it is, is that to which the caret rule of histories takes its
-- regions, merged
abbrev pub SelectionsFollowChanges : Type 0
SelectionsFollowChanges = (history : History) (step : Step) (units : UnitDelta) (stays_left : Bool) (regions : List Region) → IsSound history →
    ((index : ℕ) → unit_keeps units index ≡ change_keeps (after_step history step) (head history) (head (after_step history step)) index) →
    ((gap : ℕ) → unit_adds units gap ≡ change_adds (after_step history step) (head history) (head (after_step history step)) gap) →
    mapped_regions units stays_left regions ≡ merged_regions (moved_regions history (after_step history step) stays_left regions)

-- the order in which regions come does not matter
abbrev pub OrderDoesNotMatter : Type 0
OrderDoesNotMatter = (regions others : List Region) → IsPermutation regions others → selection_of regions ≡ selection_of others
