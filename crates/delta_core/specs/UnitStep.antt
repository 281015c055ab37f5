-- A unit delta as steps from the left end of its base to the right.
use Rattle.std.specs.Prelude.{ℕ, zero, suc, ◌+◌, Bool, true, false, List, [], ◌∷◌, ◌++◌, map, replicate}
use Rattle.plain_edits.specs.declared.delta.UnitDelta.{UnitDelta}
use Rattle.plain_edits.specs.UnitDelta.{unit_keeps, unit_adds}
use Rattle.delta_core.specs.declared.part.Part.{Part}
use Rattle.delta_core.specs.declared.part.Part.TheVariants.{Keep, Drop, Add}

-- a character of the base that is kept, or one that is dropped, or a character that is added
pub data UnitStep : Type 0 where
  Kept : UnitStep
  Dropped : UnitStep
  New : ℕ → UnitStep

-- for each character of the base whether it is dropped
abbrev pub drops : List UnitStep → List Bool
drops [] = []
drops (Kept ∷ steps) = false ∷ drops steps
drops (Dropped ∷ steps) = true ∷ drops steps
drops (New c ∷ steps) = drops steps

-- what becomes of a character of the base
abbrev pub step_of : Bool → UnitStep
step_of true = Kept
step_of false = Dropped

-- the steps from a gap on, where that many characters of the base are right of it
abbrev pub steps_from : (ℕ → Bool) → (ℕ → List ℕ) → ℕ → ℕ → List UnitStep
steps_from keeps adds gap zero = map New (adds gap)
steps_from keeps adds gap (suc n) = map New (adds gap) ++ step_of (keeps gap) ∷ steps_from keeps adds (gap + 1) n

-- the steps of a unit delta
abbrev pub steps_of : UnitDelta → List UnitStep
steps_of units = steps_from (unit_keeps units) (unit_adds units) 0 units.base

-- the steps of a part
abbrev pub part_steps : Part → List UnitStep
part_steps (Keep n) = replicate n Kept
part_steps (Drop n) = replicate n Dropped
part_steps (Add text) = map New text.now
