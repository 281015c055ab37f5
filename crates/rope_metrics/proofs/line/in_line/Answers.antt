use Rattle.std.proofs.Common.{arith}
use Rattle.rope_node.specs.Node.{text_of}
use Rattle.rope_metrics.specs.Measure.{HasNone}
use Rattle.rope_metrics.specs.declared.measure.Measure.TheVariants.{Bytes, Chars, Lines}
use Rattle.rope_metrics.proofs.OffsetLemmas.{chunk-reaches, converted-reaches, converted-within, none-anyway, none-within}
use Rattle.rope_metrics.proofs.line.in_line.Goals as goal

pub returns-in_err-line-clause-none : goal.returns-in_err-line-clause-none
returns-in_err-line-clause-none g c =
    none-anyway c.from_residual.result (HasNone Chars (text_of c.args.node.now) c.args.gap)
    (none-within Chars (text_of c.args.node.now) c.args.gap c.chunk_at.result.0.now c.chunk_at.result.1 c.chunk_at.ensures.found c.in_err-line.ensures.none)

pub returns-in_ok-start-clause-line : goal.returns-in_ok-start-clause-line
returns-in_ok-start-clause-line g c =
    converted-within Chars (text_of c.args.node.now) c.args.gap c.chunk_at.result.0.now c.chunk_at.result.1 c.chunk_at.ensures.found Lines c.in_ok-line.line
    c.in_ok-line.ensures.some

pub returns-in_ok-start-clause-start : goal.returns-in_ok-start-clause-start
returns-in_ok-start-clause-start g c =
    let own = c.chunk_at.result.0.now in
    let before = c.chunk_at.result.1 in
    let found = chunk-reaches Chars Lines (text_of c.args.node.now) c.args.gap c.in_ok-line.line own before c.chunk_at.ensures.found
    (omega (arith, c.if-before-line.true))
    (converted-reaches Chars Lines before own c.args.gap c.in_ok-line.line c.in_ok-line.ensures.some) in
    converted-within Lines (text_of c.args.node.now) c.in_ok-line.line own before found Bytes c.in_ok-start.start c.in_ok-start.ensures.some

pub returns-in_ok-start-clause-place : goal.returns-in_ok-start-clause-place
returns-in_ok-start-clause-place g c =
    converted-within Chars (text_of c.args.node.now) c.args.gap c.chunk_at.result.0.now c.chunk_at.result.1 c.chunk_at.ensures.found Bytes c.in_ok-place.place
    c.in_ok-place.ensures.some

pub returns-in_ok-start-2-clause-line : goal.returns-in_ok-start-2-clause-line
returns-in_ok-start-2-clause-line g c =
    converted-within Chars (text_of c.args.node.now) c.args.gap c.chunk_at.result.0.now c.chunk_at.result.1 c.chunk_at.ensures.found Lines c.in_ok-line.line
    c.in_ok-line.ensures.some

pub returns-in_ok-start-2-clause-place : goal.returns-in_ok-start-2-clause-place
returns-in_ok-start-2-clause-place g c =
    converted-within Chars (text_of c.args.node.now) c.args.gap c.chunk_at.result.0.now c.chunk_at.result.1 c.chunk_at.ensures.found Bytes c.in_ok-place.place
    c.in_ok-place.ensures.some
