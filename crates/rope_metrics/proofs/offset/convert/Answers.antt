use Rattle.std.proofs.Common.{arith}
use Rattle.rope_metrics.proofs.OffsetLemmas.{none-answer, none-past, some-answer}
use Rattle.rope_node.specs.Node.{text_of}
use Rattle.rope_metrics.proofs.offset.convert.Goals as goal

pub returns-then-at-total-clause-none : goal.returns-then-at-total-clause-none
returns-then-at-total-clause-none g c = none-past c.args.from (text_of c.args.node.now) c.args.at (omega (arith, c.total.ensures, c.if-at-total.true))

pub returns-clause-some : goal.returns-clause-some
returns-clause-some g c =
    some-answer c.args.from (text_of c.args.node.now) c.args.at c.chunk_at.result.0.now c.chunk_at.result.1 c.chunk_at.ensures.found c.args.to c.in_chunk.result c.in_chunk.ensures.some

pub returns-clause-none : goal.returns-clause-none
returns-clause-none g c =
    none-answer c.args.from (text_of c.args.node.now) c.args.at c.chunk_at.result.0.now c.chunk_at.result.1 c.chunk_at.ensures.found c.in_chunk.result c.in_chunk.ensures.none
