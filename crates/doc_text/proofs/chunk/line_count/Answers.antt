use Rattle.std.proofs.Common.{ap, arith}
use Rattle.rope_node.specs.Lengths.{lf_count}
use Rattle.doc_text.proofs.CountLemmas.{length-logical_lines}
use Rattle.doc_text.proofs.chunk.line_count.Goals as goal

pub overflow_add-result : goal.overflow_add-result
overflow_add-result c = omega (arith, c.requires, c.total.ensures, ap lf_count c.node.ensures, length-logical_lines c.args.text.now)

pub returns : goal.returns
returns c = omega (arith, c.total.ensures, ap lf_count c.node.ensures, length-logical_lines c.args.text.now)
