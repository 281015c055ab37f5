-- What an edit makes of a selection.
use Rattle.std.specs.Prelude.{ℕ, ◌≤◌, Bool, false, List, map}
use Rattle.std.specs.List.{AllByRecursion}
use Rattle.plain_text.specs.declared.selection.Region.{Region}
use Rattle.plain_edits.specs.declared.delta.UnitDelta.{UnitDelta}
use Rattle.plain_edits.specs.Caret.{mapped_gap}
use Rattle.plain_edits.specs.UnitDelta.{unit_keeps, unit_adds}
use Rattle.selection_core.specs.Selection.{greater_end, merged_regions}

-- where an edit takes a gap, by the caret rule
abbrev pub new_gap : UnitDelta → Bool → ℕ → ℕ
new_gap units after gap = mapped_gap (unit_keeps units) (unit_adds units) after gap

-- where an edit takes the ends of a region, which keeps its goal
abbrev pub mapped_region : UnitDelta → Bool → Region → Region
mapped_region units after region = record region { anchor = new_gap units after region.anchor; caret = new_gap units after region.caret }

-- what an edit makes of the regions of a selection: each is mapped, and those that then meet are merged
abbrev pub mapped_regions : UnitDelta → Bool → List Region → List Region
mapped_regions units after regions = merged_regions (map (mapped_region units after) regions)

-- no region goes past the end of a text of this length
abbrev pub AreWithin : ℕ → List Region → Type 0
AreWithin len regions = AllByRecursion (λ region. greater_end region ≤ len) regions

-- how many characters the text has after the edit: so many stand left of its end
abbrev pub length_after : UnitDelta → ℕ
length_after units = new_gap units false units.base
