-- Worked edits.
use Rattle.std.specs.Prelude.{ℕ, List, [], ◌∷◌}
use Rattle.plain_text.specs.declared.run.Run.{Run}
use Rattle.plain_edits.specs.declared.delta.Added.{Added}
use Rattle.plain_edits.specs.declared.delta.UnitDelta.{UnitDelta}

-- one text at one gap
abbrev pub added_at : ℕ → List ℕ → List Added
added_at gap text = (record { gap = gap; text = text }) ∷ []

-- all of a text but what stands between two gaps
abbrev pub all_but : ℕ → ℕ → ℕ → List Run
all_but from to base = (record { start = 0; end = from }) ∷ (record { start = to; end = base }) ∷ []

-- the edit that drops the second, third and fourth of six characters
abbrev pub deleting_edit : UnitDelta
deleting_edit = record { base = 6; kept = all_but 1 4 6; added = [] }

-- the edit that has `X` in the place of the second of three characters
abbrev pub replacing_edit : UnitDelta
replacing_edit = record { base = 3; kept = all_but 1 2 3; added = added_at 1 (88 ∷ []) }
