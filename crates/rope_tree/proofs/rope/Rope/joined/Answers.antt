use Rattle.std.proofs.Common.{◌≡◌, ◌<◌, ◌^◌, ◌++◌}
use Rattle.plain_text.specs.Text.{byte_len}
use Rattle.rope_node.specs.Node.{text_of}
use Rattle.rope_node.proofs.ForCallers.{text_fits}
use Rattle.rope_tree.proofs.ScalarLemmas.{all_scalars-append, same-scalars, text-scalars}
use Rattle.rope_tree.proofs.rope.Rope.joined.Goals as goal

pub joined-requires : goal.joined-requires
joined-requires c =
    let one : text_of c.tree.result.now ≡ c.args.self.now = rw c.tree.ensures c.self.view_is in
    let two : text_of c.tree-2.result.now ≡ c.args.other.now = rw c.tree-2.ensures c.other.view_is in
    let few : byte_len (text_of c.tree.result.now ++ text_of c.tree-2.result.now) < 2 ^ 64 = rw (one, two) c.requires in
    text_fits _ few

pub invariant_of-result : goal.invariant_of-result
invariant_of-result c =
    text-scalars c.of_tree.result _ _ c.of_tree.ensures c.in_ok-made.ensures
    (all_scalars-append (text_of c.tree.result.now) (text_of c.tree-2.result.now)
    (same-scalars c.tree.result.now _ c.tree.ensures c.self.invariant) (same-scalars c.tree-2.result.now _ c.tree-2.ensures c.other.invariant))
