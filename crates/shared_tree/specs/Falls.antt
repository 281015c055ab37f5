-- Each child of a node is lower than the node.
use Rattle.std.specs.Prelude.{◌≡◌, ℕ, ◌+◌, ◌-◌, ◌≤◌, max, List, [], ◌∷◌}
use Rattle.std.specs.List.{All}
use Rattle.std.specs.Arc.{arc_value}
use Rattle.std.specs.declared.sync.Arc.{Arc}
use Rattle.std.proofs.Common.{arith}
use Rattle.std.proofs.lemmas.List.Elements.{All-head, All-tail}
use denote.Param.Weighed.{most}
use Rattle.shared_tree.specs.declared.leaf.Leaf.{Ghosts}
use Rattle.shared_tree.specs.declared.leaf.Summary.{Ghosts as Sum}
use Rattle.shared_tree.specs.declared.node.Body.{Body}
use Rattle.shared_tree.specs.declared.node.Body.TheVariants.{Tip, Inner}
use Rattle.shared_tree.specs.declared.node.Node.TheDeep.{deep-Body}
use Rattle.shared_tree.specs.Shape.{Shape}
use Rattle.shared_tree.specs.Row.{shapes, IsLevel}
use Rattle.shared_tree.specs.Node.{IsBuilt}

lower : {L Item I Z : Type 0} (leaf : Ghosts L Item I) (height : ℕ) (kids : List (Arc (Shape L) Z)) → All (IsLevel leaf (height - 1)) (shapes kids) → 1 ≤ height → most (λ kid. (arc_value {X = Shape L} kid).height + 1) kids ≤ height
lower leaf height [] levels above = omega arith
lower {L} leaf height (kid ∷ kids) levels above =
    let first : IsLevel leaf (height - 1) (arc_value kid) = All-head (IsLevel leaf (height - 1)) (arc_value kid) (shapes kids) levels in
    let same : (arc_value {X = Shape L} kid).height ≡ height - 1 = first.level in
    let rest : most (λ kid. (arc_value {X = Shape L} kid).height + 1) kids ≤ height = lower leaf height kids (All-tail (IsLevel leaf (height - 1)) (arc_value kid) (shapes kids) levels) above in
    omega arith

-- the depth of what stands below a node is at most the node's height
pub deep_falls : {L Item I : Type 0} (leaf : Ghosts L Item I) (sum : Sum I) (height : ℕ) (body : Body L Item I) → IsBuilt leaf height body → max (deep-Body L Item I leaf sum body) 0 ≤ height
deep_falls leaf sum height (Tip own) built = omega arith
deep_falls leaf sum height (Inner kids) built =
    let below = lower leaf height kids.items built.levels.each built.above in omega (arith, below)
