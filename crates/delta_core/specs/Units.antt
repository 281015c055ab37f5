-- Unit deltas: their values by characters, and when one says what a delta on the wire says.
use Rattle.std.specs.Prelude.{◌≡◌, ℕ, List, length}
use Rattle.plain_edits.specs.declared.delta.Delta.{Delta}
use Rattle.plain_edits.specs.declared.delta.UnitDelta.{UnitDelta}
use Rattle.plain_edits.specs.Delta.{keeps, adds, applied}
use Rattle.plain_edits.specs.UnitDelta.{IsCanonical, unit_keeps, unit_adds}

-- what a text becomes
abbrev pub text_after : UnitDelta → List ℕ → List ℕ
text_after units text = applied (unit_keeps units) (unit_adds units) text

-- the unit delta keeps and adds what the delta keeps and adds over the text, and so leads to the same text
pub record IsUnitsOf (text : List ℕ) (delta : Delta) (units : UnitDelta) : Type 0 where
  pub canonical : IsCanonical units
  pub base : units.base ≡ length text
  pub kept : (index : ℕ) → unit_keeps units index ≡ keeps text delta index
  pub added : (gap : ℕ) → unit_adds units gap ≡ adds text delta gap
  pub leads : text_after units text ≡ applied (keeps text delta) (adds text delta) text
