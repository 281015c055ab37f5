use Rattle.std.proofs.Common.{◌≡◌, ◌<◌, ◌^◌}
use Rattle.plain_text.specs.Text.{byte_len}
use Rattle.rope_node.specs.Node.{text_of}
use Rattle.shared_tree.specs.Replaced.{replaced}
use Rattle.rope_node.proofs.ForCallers.{text_fits}
use Rattle.rope_tree.proofs.ScalarLemmas.{all_scalars-replaced, same-scalars, text-scalars}
use Rattle.rope_tree.proofs.rope.Rope.replaced.Goals as goal

pub edited-requires-clause-fits : goal.edited-requires-clause-fits
edited-requires-clause-fits c =
    let base : text_of c.tree.result.now ≡ c.args.self.now = rw c.tree.ensures c.self.view_is in
    let fit : byte_len (replaced (text_of c.tree.result.now) c.args.from c.args.to (text_of c.tree-2.result.now)) < 2 ^ 64 = rw (base, c.tree-2.ensures, c.in_ok-added.ensures.made) c.requires.fits in
    text_fits _ fit

pub invariant_of-result : goal.invariant_of-result
invariant_of-result c =
    text-scalars c.of_tree.result _ _ c.of_tree.ensures c.in_ok-made.ensures
    (all_scalars-replaced (text_of c.tree.result.now) (text_of c.tree-2.result.now) c.args.from c.args.to
    (same-scalars c.tree.result.now _ c.tree.ensures c.self.invariant)
    (text-scalars c.tree-2.result.now _ _ c.tree-2.ensures c.in_ok-added.ensures.made c.in_ok-added.ensures.characters))
