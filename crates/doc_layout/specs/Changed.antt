-- A text that was changed into another.
use Rattle.std.specs.Prelude.{◌≡◌, ℕ, List, length}
use Rattle.plain_edits.specs.declared.delta.UnitDelta.{UnitDelta}
use Rattle.plain_edits.specs.UnitDelta.{IsUnitDelta}
use Rattle.delta_core.specs.Units.{text_after}

-- a change was made of a text, and led to another
pub record IsChangeOf (text made : List ℕ) (units : UnitDelta) : Type 0 where
  pub well_formed : IsUnitDelta units
  pub base : units.base ≡ length text
  pub leads : made ≡ text_after units text
