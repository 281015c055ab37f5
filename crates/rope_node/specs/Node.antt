-- The text of a node.
use Rattle.std.specs.Prelude.{ℕ, List}
use Rattle.std.specs.List.{flat_map}
use Rattle.shared_tree.specs.Shape.{Shape}

-- the text that the leaves join to
abbrev pub text_of : Shape (List ℕ) → List ℕ
text_of node = flat_map (λ leaf. leaf) node.leaves
