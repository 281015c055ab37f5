use Rattle.std.proofs.Common.{ap}
use Rattle.selection_core.specs.Selection.{caret_of}
use Rattle.edit_ops.proofs.OrderLemmas.{IsReached-item, gap_with-item, so_far-next}
use Rattle.edit_ops.proofs.editing.carets_after.Goals as goal

pub loop-replacement-preserved : goal.loop-replacement-preserved
loop-replacement-preserved c = record {
  so_far = rw c.in_ok-push.ensures.pushed
      (so_far-next _ _ _ _ _ c.replacement-item.result _ c.loop-replacement.invariant.so_far c.loop-replacement-test.true c.replacement-item.is
      (ap caret_of
      (gap_with-item c.args.base c.args.replacements.now _ _ _ _ c.replacement-item.result _ _
      c.loop-replacement.invariant.reached c.loop-replacement-test.true c.replacement-item.is c.max-start.ensures c.char_count.ensures
      _ _ _ c.in_ok-kept.ensures c.in_ok-added.ensures c.in_ok-gap.ensures)));
  reached =
      IsReached-item c.args.base c.args.replacements.now _ _ _ _ c.replacement-item.result _ _
      c.loop-replacement.invariant.reached c.loop-replacement-test.true c.replacement-item.is c.max-start.ensures c.char_count.ensures
      _ _ _ c.in_ok-kept.ensures c.in_ok-added.ensures c.max-at.ensures;
}
