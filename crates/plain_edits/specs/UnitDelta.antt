-- A delta in characters: when it is well formed and canonical, what it keeps and adds, and where it takes a caret.
use Rattle.std.specs.Prelude.{◌≢◌, ℕ, ◌+◌, ◌<◌, ◌≤◌, Bool, List, [], ◌∷◌}
use Rattle.plain_text.specs.declared.run.Run.{Run}
use Rattle.plain_edits.specs.declared.delta.Added.{Added}
use Rattle.plain_edits.specs.declared.delta.UnitDelta.{UnitDelta}
use Rattle.plain_edits.specs.Delta.{is_in_runs, text_at_gap}

-- the runs start at `from` or later, rise without an overlap, and end by `base`
abbrev pub AreRuns : ℕ → ℕ → List Run → Type 0
AreRuns base from [] = from ≤ base
AreRuns base from (run ∷ runs) = (from ≤ run.start) × (run.start ≤ run.end) × AreRuns base run.end runs

-- the gaps are at least `from` and rise, none is past `base`, and no text is empty
abbrev pub AreAdds : ℕ → ℕ → List Added → Type 0
AreAdds base from [] = Unit {0}
AreAdds base from (added ∷ adds) = (from ≤ added.gap) × (added.gap ≤ base) × (added.text ≢ []) × AreAdds base (added.gap + 1) adds

-- no run is empty, and none starts before `from` or where the run before it ends
abbrev pub AreApart : ℕ → List Run → Type 0
AreApart from [] = Unit {0}
AreApart from (run ∷ runs) = (from ≤ run.start) × (run.start < run.end) × AreApart (run.end + 1) runs

-- the delta is well formed
pub record IsUnitDelta (units : UnitDelta) : Type 0 where
  pub runs : AreRuns units.base 0 units.kept
  pub adds : AreAdds units.base 0 units.added

-- the delta is well formed, and the only one of its meaning
pub record IsCanonical (units : UnitDelta) : Type 0 where
  pub well_formed : IsUnitDelta units
  pub apart : AreApart 0 units.kept

-- whether the delta keeps the character with this index
abbrev pub unit_keeps : UnitDelta → ℕ → Bool
unit_keeps units = is_in_runs units.kept

-- the text that the delta adds at a gap
abbrev pub unit_adds : UnitDelta → ℕ → List ℕ
unit_adds units = text_at_gap units.added
