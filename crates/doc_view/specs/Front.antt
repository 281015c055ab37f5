-- How far an edit leaves a text as it is.
use Rattle.std.specs.Prelude.{◌≡◌, ℕ, ◌<◌, ◌≤◌, true, []}
use Rattle.plain_edits.specs.declared.delta.UnitDelta.{UnitDelta}
use Rattle.plain_edits.specs.UnitDelta.{unit_adds, unit_keeps}

-- an edit changes nothing left of a gap: it keeps the characters there, and adds none among them
pub record KeepsFront (units : UnitDelta) (gap : ℕ) : Type 0 where
  pub inside : gap ≤ units.base
  pub kept : (index : ℕ) → index < gap → unit_keeps units index ≡ true
  pub added : (at : ℕ) → at < gap → unit_adds units at ≡ []
