use Rattle.std.specs.Vec.Iter.{into_iter_items}
use Rattle.line_cache.proofs.ToldLemmas.{dropped_step, taken_step}
use Rattle.line_cache.proofs.ops.taken.Goals as goal

pub loop-left-preserved : goal.loop-left-preserved
loop-left-preserved c =
    let before = into_iter_items c.loop-left.rest in
    let later = into_iter_items c.next.new.self in
    let some = c.loop-left-test.true in
    record {
      lines = taken_step c.loop-left.lines _ _ before later c.in-Some.line c.loop-left.left some c.in-Some.ensures.items c.in_ok-push-in-Some.ensures.pushed c.loop-left.invariant.lines;
      rest = dropped_step _ before later c.in-Some.line c.loop-left.left some c.in-Some.ensures.items c.loop-left.invariant.rest;
    }
