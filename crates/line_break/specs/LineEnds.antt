-- What stands at the end of a logical line, and lines each cluster of which has room.
use Rattle.std.specs.Prelude.{◌≡◌, ◌⊎◌, ℕ, ◌≤◌, List, [], ◌∷◌, ◌++◌}
use Rattle.line_break.specs.Breaks.{cluster_ends, piece_columns}
use Rattle.line_break.specs.Pieces.{EachPiece}

-- the last character is this one
abbrev pub EndsIn : ℕ → List ℕ → Type 0
EndsIn c text = (before : List ℕ) × (text ≡ before ++ c ∷ [])

-- a line end behind a line that has none: LF, where the line does not end in CR, or CR LF
abbrev pub IsLineEnd : List ℕ → List ℕ → Type 0
IsLineEnd line end = ¬ EndsIn 10 line × (((end ≡ 10 ∷ []) × ¬ EndsIn 13 line) ⊎ (end ≡ 13 ∷ 10 ∷ []))

-- each cluster of a line fits the width as a piece of its own
abbrev pub EachClusterFits : ℕ → ℕ → List ℕ → Type 0
EachClusterFits width tab line = EachPiece (λ start end. piece_columns tab line start end ≤ width) 0 (cluster_ends line)
