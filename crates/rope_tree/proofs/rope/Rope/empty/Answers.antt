use Rattle.std.proofs.Common.{◌∙◌, refl}
use Rattle.rope_tree.proofs.ScalarLemmas.{same-scalars}
use Rattle.rope_tree.proofs.rope.Rope.empty.Goals as goal

pub invariant_of-result : goal.invariant_of-result
invariant_of-result c = same-scalars c.of_tree.result _ (c.of_tree.ensures ∙ c.new.ensures) refl
