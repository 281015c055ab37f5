-- What a contract sees of a node or a tree.
use Rattle.std.specs.Prelude.{ℕ, List}

-- the leaves in order, and how many levels of nodes stand above them
pub record Shape (L : Type 0) : Type 0 where
  pub leaves : List L
  pub height : ℕ

-- a tree, and a place between two of its items
pub record Place (L : Type 0) : Type 0 where
  pub tree : Shape L
  pub at : ℕ
