use Rattle.rev_engine.proofs.FlatLemmas.{IsPicking-kept, IsPicking-gone}
use Rattle.rev_engine.proofs.flat.outside.Goals as goal
use Rattle.rev_engine.proofs.flat.outside.Goals.{then-not-next+in_ok-push_str, else-not-next}

pub loop-rest-preserved : goal.loop-rest-preserved
loop-rest-preserved c = record {
  picking =
      elim c.if-not-next.branch [
        | then-not-next+in_ok-push_str w ↦
            rw (w.made-is, w.in_ok-push_str.ensures.pushed, c.split_at_gap.ensures.front, c.split_at_gap.ensures.back, c.skip.ensures)
            (IsPicking-kept _ _ _ _ c.front-next.result c.loop-rest.invariant.picking c.front-next.ensures w.if-not-next.true)
        | else-not-next w ↦
            rw (w.made-is, c.split_at_gap.ensures.back, c.skip.ensures)
            (IsPicking-gone _ _ _ _ c.front-next.result c.loop-rest.invariant.picking c.front-next.ensures w.if-not-next.false)
      ];
  utf8 = c.split_at_gap.ensures.utf8;
}
