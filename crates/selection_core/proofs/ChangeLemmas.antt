-- Where the change of a step takes carets and selections: the caret rule of histories.
use Rattle.std.proofs.Common.{◌≡◌, ℕ, Bool, List, map, ap, ap₂, sym, ◌∙◌}
use Rattle.std.proofs.Math.Path.{fun_ext}
use Rattle.plain_text.specs.declared.selection.Region.{Region}
use Rattle.plain_edits.specs.declared.delta.UnitDelta.{UnitDelta}
use Rattle.plain_edits.specs.UnitDelta.{unit_keeps, unit_adds}
use Rattle.plain_edits.specs.History.{History, head, IsSound}
use Rattle.plain_edits.specs.HistorySteps.{Step, after_step}
use Rattle.plain_edits.specs.Change.{change_keeps, change_adds}
use Rattle.plain_edits.specs.Caret.{moved_caret, moved_region, moved_regions, mapped_gap}
use Rattle.plain_edits.proofs.callers.CaretLemmas.{moved_caret-after_step}
use Rattle.selection_core.specs.Selection.{merged_regions}
use Rattle.selection_core.specs.Mapped.{new_gap, mapped_region, mapped_regions}

module _ (history : History) (step : Step) (units : UnitDelta) (stays_left : Bool) (sound : IsSound history)
    (kept : (index : ℕ) → unit_keeps units index ≡ change_keeps (after_step history step) (head history) (head (after_step history step)) index)
    (added : (gap : ℕ) → unit_adds units gap ≡ change_adds (after_step history step) (head history) (head (after_step history step)) gap) where
  pub new_gap-after_step : (gap : ℕ) → new_gap units stays_left gap ≡ moved_caret history (after_step history step) stays_left gap
  new_gap-after_step gap =
      ap₂ (λ keeps adds. mapped_gap keeps adds stays_left gap) (fun_ext kept) (fun_ext added) ∙
      sym (moved_caret-after_step history step stays_left gap sound)

  mapped_region-after_step : (region : Region) → mapped_region units stays_left region ≡ moved_region history (after_step history step) stays_left region
  mapped_region-after_step region =
      ap₂ (λ anchor caret. record region { anchor = anchor; caret = caret }) (new_gap-after_step region.anchor) (new_gap-after_step region.caret)

  pub mapped_regions-after_step : (regions : List Region) →
      mapped_regions units stays_left regions ≡ merged_regions (moved_regions history (after_step history step) stays_left regions)
  mapped_regions-after_step regions = ap (λ move. merged_regions (map move regions)) (fun_ext mapped_region-after_step)
