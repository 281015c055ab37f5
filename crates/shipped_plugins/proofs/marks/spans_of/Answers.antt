use Rattle.std.proofs.Common.{length, ap, ◌∙◌, arith}
use Rattle.shipped_plugins.proofs.MarkLemmas.{MarkedSoFar-start, MarkedSoFar-inside, MarkedSoFar-next}
use Rattle.shipped_plugins.proofs.marks.spans_of.Goals as goal

pub loop-at-init : goal.loop-at-init
loop-at-init c =
    MarkedSoFar-start c.args.chunk.now c.as_bytes.result.now c.as_bytes-2.result.now c.new-spans.result c.into_iter-at-iterator.result
    (c.as_bytes.ensures.value ∙ c.as_str.ensures.utf8) c.as_bytes-2.ensures.value c.new-spans.ensures
    (c.into_iter-at-iterator.ensures.into_iter_gives ∙ c.find_iter-at-items.ensures.value)

pub overflow_add-start : goal.overflow_add-start
overflow_add-start c =
    let bytes = ap length (c.as_bytes.ensures.value ∙ c.as_str.ensures.utf8) in
    let inside = MarkedSoFar-inside c.args.chunk.now c.loop-at.spans _ c.in-Some.at c.next.new.self c.in-Some.ensures.steps c.loop-at.invariant in
    omega (arith, inside, bytes)

pub loop-at-preserved : goal.loop-at-preserved
loop-at-preserved c =
    MarkedSoFar-next c.args.chunk.now c.loop-at.spans c.push.new.self _ c.in-Some.at c.next.new.self c.in-Some.ensures.steps c.in_ok-push.ensures.pushed c.loop-at.invariant
