use Rattle.plain_text.proofs.callers.TextLemmas.{all_scalars-drop}
use Rattle.rope_node.specs.Node.{text_of}
use Rattle.rope_tree.proofs.ScalarLemmas.{same-scalars, text-scalars}
use Rattle.rope_tree.proofs.rope.Rope.back.Goals as goal

pub invariant_of-result : goal.invariant_of-result
invariant_of-result c =
    text-scalars c.of_tree.result _ _ c.of_tree.ensures c.in_ok-made.ensures
    (all_scalars-drop c.args.from (text_of c.tree.result.now) (same-scalars c.tree.result.now _ c.tree.ensures c.self.invariant))
