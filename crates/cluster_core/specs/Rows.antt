-- Worked rows: small lines with the values that the definitions are to give.
use Rattle.std.specs.Prelude.{◌≡◌, [], ◌∷◌}
use Rattle.cluster_core.specs.Boundaries.{text_boundaries}
use Rattle.cluster_core.specs.Columns.{columns_between}

-- an LF is a boundary's left neighbour, and an accent is not; and no gap of the second line is one of the first
pub record TextBoundaries : Type 0 where
  pub feed : text_boundaries (97 ∷ 10 ∷ []) ≡ 0 ∷ 1 ∷ 2 ∷ []
  pub accent : text_boundaries (101 ∷ 769 ∷ 10 ∷ 98 ∷ []) ≡ 0 ∷ 2 ∷ 3 ∷ 4 ∷ []

-- a tab counts from the first gap; of `e` and its accent the one column stands left of the gap between them
pub record ColumnsBetween : Type 0 where
  pub tab : columns_between 4 (97 ∷ 9 ∷ 98 ∷ []) 1 3 ≡ 5
  pub whole : columns_between 4 (97 ∷ 9 ∷ 98 ∷ []) 0 3 ≡ 5
  pub left : columns_between 4 (101 ∷ 769 ∷ []) 0 1 ≡ 1
  pub right : columns_between 4 (101 ∷ 769 ∷ []) 1 2 ≡ 0
