use Rattle.std.proofs.Common.{ap, ◌∙◌}
use Rattle.line_index.specs.Inner.{cuts_under}
use Rattle.line_index.specs.Sizes.{cuts_in}
use Rattle.line_index.proofs.TreeLemmas.{leaf-fits}
use Rattle.line_index.proofs.tree.put_words.Goals as goal

pub push_leaf-requires-clause-fits : goal.push_leaf-requires-clause-fits
push_leaf-requires-clause-fits c =
    leaf-fits (cuts_under c.loop-rest.tree) _ c.in_ok-of_words.field-0 c.loop-rest.rest.now c.min.result c.loop-rest.invariant.made
    (c.in_ok-of_words.ensures ∙ ap cuts_in c.split_at.ensures.front) c.requires
