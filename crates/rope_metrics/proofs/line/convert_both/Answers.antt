use Rattle.std.proofs.Common.{◌+◌, ap, arith}
use Rattle.rope_node.specs.Lengths.{lengths_of}
use Rattle.rope_node.specs.Node.{text_of}
use Rattle.rope_metrics.specs.Measure.{long_by}
use Rattle.rope_metrics.proofs.OffsetLemmas.{chunk-reaches, long_by-together, none-answer, some-answer}
use Rattle.rope_metrics.proofs.line.convert_both.Goals as goal

pub returns-then-at-width-clause-first : goal.returns-then-at-width-clause-first
returns-then-at-width-clause-first g c =
    some-answer c.args.from (text_of c.args.node.now) c.args.at c.chunk_at.result.0.now c.chunk_at.result.1 c.chunk_at.ensures.found c.args.to
    c.in_chunk-first.result c.in_chunk-first.ensures.some

pub returns-then-at-width-clause-no_first : goal.returns-then-at-width-clause-no_first
returns-then-at-width-clause-no_first g c =
    none-answer c.args.from (text_of c.args.node.now) c.args.at c.chunk_at.result.0.now c.chunk_at.result.1 c.chunk_at.ensures.found
    c.in_chunk-first.result c.in_chunk-first.ensures.none

pub returns-then-at-width-clause-second : goal.returns-then-at-width-clause-second
returns-then-at-width-clause-second g c =
    let own = c.chunk_at.result.0.now in
    let before = c.chunk_at.result.1 in
    let found = chunk-reaches c.args.from c.args.from (text_of c.args.node.now) c.args.at (c.args.at + 1) own before c.chunk_at.ensures.found
    (omega (arith, c.chunk_at.ensures.found.passed))
    (omega (arith, c.width.ensures, c.width-2.ensures, ap (long_by c.args.from) c.summary.ensures, c.if-at-width.true, long_by-together c.args.from before (lengths_of own))) in
    some-answer c.args.from (text_of c.args.node.now) (c.args.at + 1) own before found c.args.to c.in_chunk-second.result c.in_chunk-second.ensures.some

pub returns-then-at-width-clause-no_second : goal.returns-then-at-width-clause-no_second
returns-then-at-width-clause-no_second g c =
    let own = c.chunk_at.result.0.now in
    let before = c.chunk_at.result.1 in
    let found = chunk-reaches c.args.from c.args.from (text_of c.args.node.now) c.args.at (c.args.at + 1) own before c.chunk_at.ensures.found
    (omega (arith, c.chunk_at.ensures.found.passed))
    (omega (arith, c.width.ensures, c.width-2.ensures, ap (long_by c.args.from) c.summary.ensures, c.if-at-width.true, long_by-together c.args.from before (lengths_of own))) in
    none-answer c.args.from (text_of c.args.node.now) (c.args.at + 1) own before found c.in_chunk-second.result c.in_chunk-second.ensures.none

pub returns-else-at-width-clause-first : goal.returns-else-at-width-clause-first
returns-else-at-width-clause-first g c =
    some-answer c.args.from (text_of c.args.node.now) c.args.at c.chunk_at.result.0.now c.chunk_at.result.1 c.chunk_at.ensures.found c.args.to
    c.in_chunk-first.result c.in_chunk-first.ensures.some

pub returns-else-at-width-clause-no_first : goal.returns-else-at-width-clause-no_first
returns-else-at-width-clause-no_first g c =
    none-answer c.args.from (text_of c.args.node.now) c.args.at c.chunk_at.result.0.now c.chunk_at.result.1 c.chunk_at.ensures.found
    c.in_chunk-first.result c.in_chunk-first.ensures.none
