-- Laws: what the definitions of columns come to, whatever the line.
use Rattle.std.specs.Prelude.{◌≡◌, ℕ, List, ◌∷◌, ◌++◌, length, true}
use Rattle.std.specs.Str.{all_scalars}
use Rattle.std.specs.List.{AllByRecursion, concat}
use Rattle.cluster_core.specs.Boundaries.{clusters_in}
use Rattle.cluster_core.specs.Columns.{columns_between}
use Rattle.cluster_core.specs.Walk.{counted_anew, placed}

-- a walk that counts anew at the end of some first clusters gives each later cluster with the columns between that gap and its end; and
-- what is counted anew is what a walk gives that begins to count there
pub record WalksTell : Type 0 where
  pub columns : (tab : ℕ) (line : List ℕ) (front back : List (List ℕ)) → clusters_in line ≡ front ++ back →
      AllByRecursion (λ item. item.column ≡ columns_between tab line (length (concat front)) item.end)
      (placed tab (length (concat front)) 0 back)
  pub anew : (tab gap column : ℕ) (clusters : List (List ℕ)) → counted_anew tab 0 (placed tab gap column clusters) ≡ placed tab gap 0 clusters

-- a line from the end of its first cluster on has its other clusters
pub record LinesGoOn : Type 0 where
  pub others : (line : List ℕ) → all_scalars line ≡ true → (first : List ℕ) (others : List (List ℕ)) → clusters_in line ≡ first ∷ others →
      others ≡ clusters_in (concat others)
