-- A row is a list of nodes of one height, side by side.
use Rattle.std.specs.Prelude.{◌≡◌, ℕ, ◌+◌, ◌^◌, ◌≤◌, IsTrue, List, [], ◌∷◌, length}
use Rattle.std.specs.List.{All, flat_map}
use Rattle.std.specs.declared.sync.Arc.{Arc}
use Rattle.shared_tree.specs.declared.leaf.Leaf.{Ghosts}
use Rattle.shared_tree.specs.declared.leaf.Summary.{Ghosts as Sum}
use Rattle.shared_tree.specs.Shape.{Shape}
use Rattle.shared_tree.specs.Shared.{values}

-- the items of a node or a tree: those of its leaves, in order
abbrev pub items_of : {L Item I : Type 0} → Ghosts L Item I → Shape L → List Item
items_of leaf node = flat_map leaf.items node.leaves

-- the nodes behind their pointers
abbrev pub shapes : {L Z : Type 0} → List (Arc (Shape L) Z) → List (Shape L)
shapes row = values row

-- the leaves of all nodes of a row, in order
abbrev pub leaves_of : {L : Type 0} → List (Shape L) → List L
leaves_of row = flat_map (λ node. node.leaves) row

-- the items of all nodes of a row, in order
abbrev pub items_in : {L Item I : Type 0} → Ghosts L Item I → List (Shape L) → List Item
items_in leaf row = flat_map (items_of leaf) row

-- the sum of these items fits its place
abbrev pub IsFit : {L Item I : Type 0} → Ghosts L Item I → Sum I → List Item → Type 0
IsFit leaf sum items = IsTrue (sum.fits (leaf.summed items))

-- no leaf is empty
abbrev pub AreFull : {L Item I : Type 0} → Ghosts L Item I → List L → Type 0
AreFull leaf leaves = All (λ own. 1 ≤ length (leaf.items own)) leaves

-- a node of this height: it has as many leaves as its height asks, and none is empty
pub record IsLevel {L Item I : Type 0} (leaf : Ghosts L Item I) (height : ℕ) (node : Shape L) : Type 0 where
  pub level : node.height ≡ height
  pub many : 4 ^ height ≤ length node.leaves
  pub full : AreFull leaf node.leaves

-- all nodes of a row have this height
pub record IsRow {L Item I : Type 0} (leaf : Ghosts L Item I) (height : ℕ) (row : List (Shape L)) : Type 0 where
  pub each : All (IsLevel leaf height) row

-- a row of 1 to 8 nodes of this height
pub record IsBunch {L Item I : Type 0} (leaf : Ghosts L Item I) (height : ℕ) (row : List (Shape L)) : Type 0 where
  pub levels : IsRow leaf height row
  pub some : 1 ≤ length row
  pub few : length row ≤ 8

-- a row of this height with these items, of at least so many nodes and at most so many
pub record IsRowOf {L Item I : Type 0} (leaf : Ghosts L Item I) (height : ℕ) (items : List Item) (least most : ℕ) (row : List (Shape L)) : Type 0 where
  pub levels : IsRow leaf height row
  pub same : items_in leaf row ≡ items
  pub low : least ≤ length row
  pub high : length row ≤ most

-- how many levels stand above the leaves of a tree with this row on top: a root stands above two nodes or more
abbrev pub height_over : {L : Type 0} → List (Shape L) → ℕ → ℕ
height_over [] height = 0
height_over (node ∷ []) height = height
height_over (node ∷ other ∷ row) height = height + 1

-- the row on top of a tree: at most 8 nodes of one height, whose sum fits
pub record IsTop {L Item I : Type 0} (leaf : Ghosts L Item I) (sum : Sum I) (height : ℕ) (row : List (Shape L)) : Type 0 where
  pub levels : IsRow leaf height row
  pub few : length row ≤ 8
  pub fits : IsFit leaf sum (items_in leaf row)
