use Rattle.std.proofs.Common.{arith, sym, ◌∙◌}
use Rattle.movement_core.proofs.FitLemmas.{items_past-done, items_past-step}
use Rattle.movement_core.proofs.columns.skipped.Goals as goal

pub loop-at-preserved : goal.loop-at-preserved
loop-at-preserved c = record {
  past = sym (items_past-step c.args.from c.loop-at.at _ _ _ c.loop-at-test.true c.in-Some.ensures.steps.0) ∙ c.loop-at.invariant.past;
  tab = c.in-Some.ensures.steps.1 ∙ c.loop-at.invariant.tab;
}

pub returns-clause-left : goal.returns-clause-left
returns-clause-left c =
    let past = c.loop-at-test.false in
    sym (items_past-done c.args.from c.loop-at.at _ (omega arith)) ∙ c.loop-at.invariant.past
