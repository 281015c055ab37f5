-- What every node obeys.
use Rattle.std.specs.Prelude.{◌≡◌, ℕ, ◌-◌, ◌≤◌, List, [], ◌∷◌, length}
use Rattle.shared_tree.specs.declared.leaf.Leaf.{Ghosts}
use Rattle.shared_tree.specs.declared.leaf.Summary.{Ghosts as Sum}
use Rattle.shared_tree.specs.declared.node.Body.{Body}
use Rattle.shared_tree.specs.declared.node.Body.TheVariants.{Tip, Inner}
use Rattle.shared_tree.specs.Shape.{Shape}
use Rattle.shared_tree.specs.Row.{shapes, leaves_of, items_of, IsRow, IsFit}

-- the leaves below a node, in order
abbrev pub leaves_in : {L Item I : Type 0} → Body L Item I → List L
leaves_in (Tip leaf) = leaf ∷ []
leaves_in (Inner kids) = leaves_of (shapes kids.items)

-- a node with this height and these leaves below it
abbrev pub shape_of : {L Item I : Type 0} → ℕ → Body L Item I → Shape L
shape_of height body = record { leaves = leaves_in body; height = height }

-- the children of an inner node: 4 to 8 of one height
pub record AreKids {L Item I : Type 0} (leaf : Ghosts L Item I) (height : ℕ) (kids : List (Shape L)) : Type 0 where
  pub above : 1 ≤ height
  pub levels : IsRow leaf (height - 1) kids
  pub low : 4 ≤ length kids
  pub high : length kids ≤ 8

-- a leaf has an item or more and height 0, an inner node has 4 to 8 children one level below
abbrev pub IsBuilt : {L Item I : Type 0} → Ghosts L Item I → ℕ → Body L Item I → Type 0
IsBuilt leaf height (Tip own) = (height ≡ 0) × (1 ≤ length (leaf.items own))
IsBuilt leaf height (Inner kids) = AreKids leaf height (shapes kids.items)

-- the sum of a node is that of its items, and it is built as it should be
pub record IsWellFormed {L Item I : Type 0} (leaf : Ghosts L Item I) (sum : Sum I) (height : ℕ) (summary : I) (body : Body L Item I) : Type 0 where
  pub summed : summary ≡ leaf.summed (items_of leaf (shape_of height body))
  pub fits : IsFit leaf sum (items_of leaf (shape_of height body))
  pub built : IsBuilt leaf height body
