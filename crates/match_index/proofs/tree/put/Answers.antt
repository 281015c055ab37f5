use Rattle.std.proofs.Common.{◌∙◌}
use Rattle.match_index.specs.Inner.{strides_under}
use Rattle.match_index.proofs.TreeLemmas.{leaf-fits}
use Rattle.match_index.proofs.tree.put.Goals as goal

pub push_leaf-requires-clause-fits : goal.push_leaf-requires-clause-fits
push_leaf-requires-clause-fits c =
    leaf-fits (strides_under c.loop-rest.tree) _ c.in_ok-of_numbers.field-0 c.loop-rest.rest.now c.min.result c.loop-rest.invariant.made
    (c.in_ok-of_numbers.ensures ∙ c.split_at.ensures.front) c.requires
