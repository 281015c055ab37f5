-- Worked rows: how many lines small edits touch, which is the most that are broken anew.
use Rattle.std.specs.Prelude.{◌≡◌, ℕ, List, [], ◌∷◌, replicate}
use Rattle.plain_text.specs.declared.run.Run.{Run}
use Rattle.plain_edits.specs.declared.delta.Added.{Added}
use Rattle.plain_edits.specs.declared.delta.UnitDelta.{UnitDelta}
use Rattle.delta_core.specs.Inner.{run_to}
use Rattle.line_index.specs.Index.{touched_lines}

-- the text at a gap
abbrev pub put_at : ℕ → List ℕ → Added
put_at gap text = record { gap = gap; text = text }

-- the edit of a text of so many characters that keeps these and puts in those
abbrev pub small_edit : ℕ → List Run → List Added → UnitDelta
small_edit base kept added = record { base = base; kept = kept; added = added }

-- `aa`, `bb` and `cc`, each in a line
abbrev pub lines_of_letters : List ℕ
lines_of_letters = 97 ∷ 97 ∷ 10 ∷ 98 ∷ 98 ∷ 10 ∷ 99 ∷ 99 ∷ []

-- a letter in the second line; a line feed there, which makes two of it; the first line feed gone, which makes one of two; a letter in the
-- first line and one in the last, with a line between; nothing at all
pub record TouchedLines : Type 0 where
  pub inside : touched_lines (small_edit 8 (run_to 0 8 ∷ []) (put_at 4 (120 ∷ []) ∷ [])) lines_of_letters ≡ 1
  pub feed : touched_lines (small_edit 8 (run_to 0 8 ∷ []) (put_at 4 (10 ∷ []) ∷ [])) lines_of_letters ≡ 2
  pub joined : touched_lines (small_edit 8 (run_to 0 2 ∷ run_to 3 8 ∷ []) []) lines_of_letters ≡ 1
  pub both : touched_lines (small_edit 8 (run_to 0 8 ∷ []) (put_at 1 (120 ∷ []) ∷ put_at 7 (121 ∷ []) ∷ [])) lines_of_letters ≡ 3
  pub none : touched_lines (small_edit 8 (run_to 0 8 ∷ []) []) lines_of_letters ≡ 1

-- a letter before a hundred line feeds, and one after them
pub record FarChanges : Type 0 where
  pub all : touched_lines (small_edit 100 (run_to 0 100 ∷ []) (put_at 0 (97 ∷ []) ∷ put_at 100 (98 ∷ []) ∷ [])) (replicate 100 10) ≡ 101
