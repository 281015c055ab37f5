use Rattle.std.proofs.Common.{ap, ◌∙◌, arith}
use Rattle.rope_node.specs.Lengths.{lf_count}
use Rattle.line_index.proofs.WholeLemmas.{lf_count-le}
use Rattle.line_index.proofs.offsets.lf_count.Goals as goal

pub returns-clause-value : goal.returns-clause-value
returns-clause-value c = c.total.ensures ∙ ap lf_count c.node.ensures

pub returns-clause-few : goal.returns-clause-few
returns-clause-few c = omega (arith, returns-clause-value c, lf_count-le c.args.text.now)
