-- Where an item or a leaf stands in a tree.
use Rattle.std.specs.Prelude.{◌≡◌, ℕ, ◌+◌, ◌-◌, ◌<◌, ◌≤◌, if◌then◌else◌, ◌==◌, List, [], ◌∷◌, ◌++◌, length}
use Rattle.std.specs.List.{flat_map}
use Rattle.shared_tree.specs.declared.leaf.Leaf.{Ghosts}
use Rattle.shared_tree.specs.declared.leaf.Summary.{Ghosts as Sum}

-- the sum of the items of these leaves
abbrev pub sum_over : {L Item I : Type 0} → Ghosts L Item I → List L → I
sum_over leaf leaves = leaf.summed (flat_map leaf.items leaves)

-- some of the leaves, side by side, with the sum of all before them: a measure passes `at` in these. `start` is the sum before the first leaf
pub record IsFound {L Item I : Type 0} (leaf : Ghosts L Item I) (sum : Sum I) (width : I → ℕ) (start : I) (leaves : List L) (at : ℕ) (part : List L) (before : I) : Type 0 where
  pub front : List L
  pub back : List L
  pub cut : leaves ≡ front ++ (part ++ back)
  pub total : before ≡ sum.plus start (sum_over leaf front)
  pub passed : width before < at
  pub reached : at ≤ width (sum.plus before (sum_over leaf part))

-- a part of the items has item `at`, at this offset
pub record IsAt {Item : Type 0} (items : List Item) (at : ℕ) (part : List Item) (offset : ℕ) : Type 0 where
  pub front : List Item
  pub back : List Item
  pub cut : items ≡ front ++ (part ++ back)
  pub place : length front + offset ≡ at
  pub inside : offset < length part

-- the leaves whose items stand from this index on
abbrev pub leaves_from : {L Item I : Type 0} → Ghosts L Item I → ℕ → List L → List L
leaves_from leaf at [] = []
leaves_from leaf at (own ∷ leaves) = if at == 0 then own ∷ leaves else leaves_from leaf (at - length (leaf.items own)) leaves

-- the index is where one leaf ends and the next one begins
pub record IsSeam {L Item I : Type 0} (leaf : Ghosts L Item I) (at : ℕ) (leaves : List L) : Type 0 where
  pub front : List L
  pub back : List L
  pub cut : leaves ≡ front ++ back
  pub place : length (flat_map leaf.items front) ≡ at
