-- All that edits: for each region a range and a text.
use Rattle.std.specs.Prelude.{◌≡◌, ℕ, ◌+◌, ◌<◌, ◌≤◌, ◌⊎◌, min, max, Bool, false, not, ◌==◌, if◌then◌else◌, List, [], ◌∷◌, map}
use Rattle.std.specs.List.{flat_map}
use Rattle.plain_text.specs.declared.run.Run.{Run}
use Rattle.plain_text.specs.declared.selection.Region.{Region}
use Rattle.plain_edits.specs.declared.delta.UnitDelta.{UnitDelta}
use Rattle.plain_edits.specs.Caret.{mapped_gap}
use Rattle.plain_edits.specs.Delta.{applied, is_in_runs}
use Rattle.plain_edits.specs.UnitDelta.{IsCanonical, unit_adds, unit_keeps}
use Rattle.selection_core.specs.Selection.{caret_of, greater_end, is_caret, lesser_end, selection_of}
use Rattle.edit_ops.specs.declared.replacement.Replacement.{Replacement}

-- whether replacements keep the character with this index: it is in none of their ranges
abbrev pub kept_by : List Replacement → ℕ → Bool
kept_by replacements index = not (is_in_runs (map (λ r. r.range) replacements) index)

-- the text that replacements add at a gap: those of the ranges that start there
abbrev pub added_by : List Replacement → ℕ → List ℕ
added_by replacements gap = flat_map (λ r. if r.range.start == gap then r.text else []) replacements

-- THE TEXT AFTER REPLACEMENTS: what is in some range is dropped, and each text is added at the start of its range
abbrev pub text_with : List Replacement → List ℕ → List ℕ
text_with replacements text = applied (kept_by replacements) (added_by replacements) text

-- where replacements take a caret, by the caret rule: it stays left of the character right of it
abbrev pub gap_with : List Replacement → ℕ → ℕ
gap_with replacements gap = mapped_gap (kept_by replacements) (added_by replacements) false gap

-- THE SELECTION AFTER REPLACEMENTS: a caret at the start of each range, taken through the edit, and those that meet are merged
abbrev pub carets_with : List Replacement → List Region
carets_with replacements = selection_of (map (λ r. caret_of (gap_with replacements r.range.start)) replacements)

-- THE EDIT OF REPLACEMENTS, in characters: the only one of their meaning over a base of this length
pub record IsEditOf (base : ℕ) (replacements : List Replacement) (units : UnitDelta) : Type 0 where
  pub canonical : IsCanonical units
  pub of : units.base ≡ base
  pub kept : (index : ℕ) → index < base → unit_keeps units index ≡ kept_by replacements index
  pub added : (gap : ℕ) → unit_adds units gap ≡ added_by replacements gap

-- what stands between the ends of a region
abbrev pub range_of : Region → Run
range_of region = record { start = lesser_end region; end = greater_end region }

-- a region is replaced by a text
abbrev pub replaced_by : List ℕ → Region → Replacement
replaced_by text region = record { range = range_of region; text = text }

-- a range is deleted
abbrev pub deletion_of : Run → Replacement
deletion_of range = record { range = range; text = [] }

-- what is deleted at a region: its range, or from a caret alone what stands between it and a gap
abbrev pub deleted_range : ℕ → Region → Run
deleted_range gap region = if is_caret region then record { start = min region.caret gap; end = max region.caret gap } else range_of region

-- a region is deleted so
abbrev pub deleted_to : ℕ → Region → Replacement
deleted_to gap region = deletion_of (deleted_range gap region)

-- REPLACEMENTS IN ORDER over a base: their ranges lie in it, each starts right of `low`, or one left of it where it adds no text, and the
-- others start no further left. So each text is added right of where every earlier range starts
abbrev pub AreInOrder : ℕ → ℕ → List Replacement → Type 0
AreInOrder base low [] = Unit {0}
AreInOrder base low (r ∷ replacements) =
    (low ≤ r.range.start + 1) × (r.range.start ≤ r.range.end) × (r.range.end ≤ base) × ((r.text ≡ []) ⊎ (low ≤ r.range.start)) ×
    AreInOrder base (r.range.start + 1) replacements
