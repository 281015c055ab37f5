use Rattle.std.proofs.Common.{ap, arith, length}
use Rattle.std.proofs.lemmas.List.{length-drop}
use Rattle.subset_runs.proofs.ForCallers.{front_len}
use Rattle.rev_engine.proofs.FlatLemmas.{IsPicking-taken, IsPicking-passed}
use Rattle.rev_engine.proofs.flat.picked.Goals as goal
use Rattle.rev_engine.proofs.flat.picked.Goals.{then-not-next+in_ok-slice+in_ok-push_text, else-not-next}

pub loop-walk-preserved : goal.loop-walk-preserved
loop-walk-preserved c = record {
  picking =
      elim c.if-not-next.branch [
        | then-not-next+in_ok-slice+in_ok-push_text w ↦
            rw (w.made-is, w.in_ok-push_text.ensures.pushed, c.skip.ensures)
            (IsPicking-taken _ _ _ c.args.union.now c.loop-walk.gap c.loop-walk.walk c.front-next.result c.loop-walk.invariant.picking
            c.front-next.ensures w.if-not-next.true w.in_ok-slice.ensures)
        | else-not-next w ↦
            rw (w.made-is, c.skip.ensures)
            (IsPicking-passed _ _ c.args.union.now c.loop-walk.gap c.loop-walk.walk c.front-next.result c.loop-walk.invariant.picking
            c.front-next.ensures w.if-not-next.false)
      ];
  passed = omega (
    arith,
    c.loop-walk.invariant.passed,
    ap length c.skip.ensures,
    length-drop c.front-next.result.len c.loop-walk.walk,
    front_len c.loop-walk.walk c.front-next.result c.front-next.ensures,
  );
}
