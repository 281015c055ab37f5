use Rattle.std.proofs.Common.{◌+◌, drop, arith}
use Rattle.std.proofs.lemmas.List.{drop_more, drop_all}
use Rattle.number_runs.proofs.JoinLemmas.{next_of, taking_none, taking_one, taken_all, taken_some}
use Rattle.number_runs.proofs.run.add_up_to.Goals as goal

pub loop-at-init : goal.loop-at-init
loop-at-init c = record { taking = taking_none _ _ c.requires.apart c.requires.left; by = c.requires.by; inside = c.requires.inside }

pub add-requires-clause-order : goal.add-requires-clause-order
add-requires-clause-order c =
    let own = next_of _ _ _ _ c.loop-at.invariant.taking.later (drop_more c.args.more.now c.loop-at.at (record { start = 0; end = 0 }) c.loop-at-test.true) in
    own.1

pub add-requires-clause-apart : goal.add-requires-clause-apart
add-requires-clause-apart c = c.loop-at.invariant.taking.apart

pub add-requires-clause-by : goal.add-requires-clause-by
add-requires-clause-by c =
    let own = next_of _ _ _ _ c.loop-at.invariant.taking.later (drop_more c.args.more.now c.loop-at.at (record { start = 0; end = 0 }) c.loop-at-test.true) in
    own.0

pub loop-at-preserved : goal.loop-at-preserved
loop-at-preserved c =
    let more = c.args.more.now in
    record {
      taking = taking_one _ _ _ (drop c.args.taken more) (drop c.loop-at.at more) (drop (c.loop-at.at + 1) more) _ c.loop-at.invariant.taking
          (drop_more more c.loop-at.at (record { start = 0; end = 0 }) c.loop-at-test.true) c.in_ok-add.ensures;
      by = omega (arith, c.in_ok-add.ensures.by, c.if-more-at.true);
      inside = omega (arith, c.loop-at-test.true);
    }

pub returns-else-more-at-clause-adds : goal.returns-else-more-at-clause-adds
returns-else-more-at-clause-adds c =
    let more = c.args.more.now in
    taken_some _ _ (drop c.args.taken more) (drop c.loop-at.at more) (drop (c.loop-at.at + 1) more) _ c.args.number c.loop-at.invariant.taking c.loop-at.invariant.by
    (drop_more more c.loop-at.at (record { start = 0; end = 0 }) c.loop-at-test.true) (omega (arith, c.if-more-at.false))

pub returns-after-loop-at-clause-adds : goal.returns-after-loop-at-clause-adds
returns-after-loop-at-clause-adds c =
    let more = c.args.more.now in
    taken_all _ _ (drop c.args.taken more) (drop c.loop-at.at more) c.args.number c.loop-at.invariant.taking c.loop-at.invariant.by (drop_all c.loop-at.at more (omega arith))
