use Rattle.std.proofs.Common.{◌+◌, arith}
use Rattle.line_index.proofs.CuttingLemmas.{span-step}
use Rattle.line_index.proofs.TreeLemmas.{span-cuts}
use Rattle.line_index.proofs.cut.index_of.Goals as goal

pub returns-then-count-character-clause-by_then : goal.returns-then-count-character-clause-by_then
returns-then-count-character-clause-by_then c =
    rw c.loop-word.invariant.at
    (omega (arith, c.loop-word.invariant.rest, c.loop-word.invariant.by_then, span-cuts c.args.words.now c.loop-word.word-index))

pub returns-then-count-character-clause-last : goal.returns-then-count-character-clause-last
returns-then-count-character-clause-last c =
    let step = span-step c.args.words.now c.loop-word.word-index c.loop-word.count c.cut_of-count.result c.loop-word-test.true c.cut_of-count.ensures c.loop-word.invariant.rest in
    rw c.loop-word.invariant.at
    (omega (arith, step, c.if-count-character.true, span-cuts c.args.words.now (c.loop-word.word-index + 1)))
