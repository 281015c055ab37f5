use Rattle.std.proofs.Common.{arith}
use Rattle.std.proofs.lemmas.List.Sums.{sum_by-drop_more}
use Rattle.line_cache.specs.Steps.{lines_of}
use Rattle.line_cache.specs.declared.step.Step.TheVariants.{Keep}
use Rattle.line_updates.proofs.plan.lines_told.Goals as goal

pub overflow_add-at : goal.overflow_add-at
overflow_add-at g c =
    omega (
      arith,
      c.lines-at.ensures,
      sum_by-drop_more lines_of c.as_slice-step-items.result.now c.loop-step.step-index (Keep 0 0) c.loop-step-test.true,
      c.loop-step.invariant.room,
      c.lines-count.ensures.count,
      c.lines-count.type_inv,
    )
