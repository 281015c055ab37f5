-- Worked rows: small edits with the values that the definitions are to give.
use Rattle.std.specs.Prelude.{◌≡◌, [], ◌∷◌}
use Rattle.plain_edits.specs.declared.delta.El.TheVariants.{Copy, Insert}
use Rattle.plain_edits.specs.declared.delta.UnitDelta.{UnitDelta}
use Rattle.delta_core.specs.Elements.{delta_of}
use Rattle.delta_core.specs.Inner.{run_to}
use Rattle.delta_core.specs.Wire.{wire_of}

-- the edit of `aéb` that drops `é`, and adds `X` left of it and `Y` right of it
abbrev pub edit_round_dropped : UnitDelta
edit_round_dropped = record {
  base = 3;
  kept = run_to 0 1 ∷ run_to 2 3 ∷ [];
  added = (record { gap = 1; text = 88 ∷ [] }) ∷ (record { gap = 2; text = 89 ∷ [] }) ∷ [];
}

-- an empty copy fixes the gap where no other copy ends; the delta of the notices joins the two texts
pub record GapsAreKept : Type 0 where
  pub apart : (delta_of (97 ∷ 233 ∷ 98 ∷ []) edit_round_dropped).els ≡ Copy 0 1 ∷ Insert (88 ∷ []) ∷ Copy 3 3 ∷ Insert (89 ∷ []) ∷ Copy 3 4 ∷ []
  pub joined : (wire_of (97 ∷ 233 ∷ 98 ∷ []) edit_round_dropped).els ≡ Copy 0 1 ∷ Insert (88 ∷ 89 ∷ []) ∷ Copy 3 4 ∷ []
