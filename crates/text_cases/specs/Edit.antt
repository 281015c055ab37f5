-- A worked edit.
use Rattle.std.specs.Prelude.{[], ◌∷◌}
use Rattle.plain_edits.specs.declared.delta.UnitDelta.{UnitDelta}
use Rattle.delta_core.specs.Inner.{run_to}

-- the edit of `abc` that has `X` in the place of `b`
abbrev pub edit_of_abc : UnitDelta
edit_of_abc = record { base = 3; kept = run_to 0 1 ∷ run_to 2 3 ∷ []; added = (record { gap = 1; text = 88 ∷ [] }) ∷ [] }
