-- What an edit makes of the regions of a view.
use Rattle.std.specs.Prelude.{◌≡◌, Bool, List, map}
use Rattle.plain_text.specs.declared.selection.Region.{Region}
use Rattle.plain_edits.specs.declared.delta.UnitDelta.{UnitDelta}
use Rattle.edit_ops.specs.Regions.{without_goal}
use Rattle.selection_core.specs.Mapped.{AreWithin, length_after, mapped_regions}
use Rattle.selection_core.specs.Selection.{IsSelection}
use Rattle.doc_view.specs.declared.moved.Goals.{Goals}
use Rattle.doc_view.specs.declared.moved.Goals.TheVariants.{Kept, Cleared}

-- the regions with their goals, or without
abbrev pub with_goals : Goals → List Region → List Region
with_goals Kept regions = regions
with_goals Cleared regions = map without_goal regions

-- these are the regions that an edit leaves: they are a selection, and lie in the text after it
pub record AreMoved (units : UnitDelta) (after_cursor : Bool) (goals : Goals) (regions moved : List Region) : Type 0 where
  pub is : moved ≡ mapped_regions units after_cursor (with_goals goals regions)
  pub sound : IsSelection moved
  pub inside : AreWithin (length_after units) moved
