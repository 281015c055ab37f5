-- A text with runs of it replaced, and the edit that does it.
use Rattle.std.specs.Prelude.{◌≡◌, ℕ, ◌-◌, ◌<◌, ◌==◌, Bool, not, if◌then◌else◌, List, [], ◌∷◌, ◌++◌, length, take, drop}
use Rattle.std.specs.List.{list_any}
use Rattle.plain_text.specs.declared.run.Run.{Run}
use Rattle.plain_edits.specs.declared.delta.UnitDelta.{UnitDelta}
use Rattle.plain_edits.specs.Delta.{is_in_runs}
use Rattle.plain_edits.specs.UnitDelta.{IsCanonical, unit_keeps, unit_adds}
use Rattle.delta_core.specs.Units.{text_after}

-- what stands from a gap on, with each run replaced: the text before the run, the new text, and what comes of the text behind the run
abbrev pub replaced_from : ℕ → List ℕ → List Run → List ℕ → List ℕ
replaced_from at text [] new = text
replaced_from at text (run ∷ runs) new =
    take (run.start - at) text ++ (new ++ replaced_from run.end (drop (run.end - at) text) runs new)

-- THE TEXT WITH EACH RUN REPLACED
abbrev pub replaced : List ℕ → List Run → List ℕ → List ℕ
replaced text runs new = replaced_from 0 text runs new

-- whether one of the runs starts at the gap
abbrev pub is_start : List Run → ℕ → Bool
is_start runs gap = list_any (λ run. run.start == gap) runs

-- the edit drops the characters of the runs alone, adds the new text where a run starts and nothing elsewhere, and so leads to the
-- text with each run replaced
pub record Replaces (text : List ℕ) (runs : List Run) (new : List ℕ) (units : UnitDelta) : Type 0 where
  pub canonical : IsCanonical units
  pub base : units.base ≡ length text
  pub kept : (index : ℕ) → index < length text → unit_keeps units index ≡ not (is_in_runs runs index)
  pub added : (gap : ℕ) → unit_adds units gap ≡ (if is_start runs gap then new else [])
  pub leads : text_after units text ≡ replaced text runs new
