use Rattle.std.proofs.Common.{ap, arith, length}
use Rattle.std.proofs.lemmas.List.{length-drop}
use Rattle.subset_runs.proofs.ForCallers.{front_len}
use Rattle.rev_engine.proofs.FlatLemmas.{IsPuttingAt-new, IsPuttingAt-old, IsPutting-new_len, piece-fits}
use Rattle.rev_engine.proofs.flat.with_put_in.Goals as goal
use Rattle.rev_engine.proofs.flat.with_put_in.Goals.{then-next+in_ok-made-2, else-next}

pub split_at_gap-requires : goal.split_at_gap-requires
split_at_gap-requires c =
    IsPutting-new_len _ _ _ _ _ c.front-next.result c.loop-rest.invariant.putting.putting c.front-next.ensures c.if-next.true

pub put_at-requires-clause-fits : goal.put_at-requires-clause-fits
put_at-requires-clause-fits c =
    rw c.split_at_gap.ensures.front
    (omega (arith, piece-fits _ _ _ _ _ _ c.front-next.result c.loop-rest.invariant.putting c.front-next.ensures, c.requires.fits))

pub loop-rest-preserved : goal.loop-rest-preserved
loop-rest-preserved c =
    elim c.if-next.branch [
      | then-next+in_ok-made-2 w ↦ record {
        putting =
            rw (w.made-is, w.rest-is, w.in_ok-made-2.ensures, w.split_at_gap.ensures.front, w.split_at_gap.ensures.back, c.skip.ensures)
            (IsPuttingAt-new _ _ _ _ _ _ c.front-next.result c.loop-rest.invariant.putting c.front-next.ensures w.if-next.true);
        passed = omega (
          arith,
          c.loop-rest.invariant.passed,
          ap length c.skip.ensures,
          length-drop c.front-next.result.len c.loop-rest.walk,
          front_len c.loop-rest.walk c.front-next.result c.front-next.ensures,
        );
        utf8 = rw w.rest-is w.split_at_gap.ensures.utf8;
      }
      | else-next w ↦ record {
        putting =
            rw (w.made-is, w.rest-is, c.skip.ensures)
            (IsPuttingAt-old _ _ _ _ _ _ c.front-next.result c.loop-rest.invariant.putting c.front-next.ensures w.if-next.false);
        passed = omega (
          arith,
          c.loop-rest.invariant.passed,
          ap length c.skip.ensures,
          length-drop c.front-next.result.len c.loop-rest.walk,
          front_len c.loop-rest.walk c.front-next.result c.front-next.ensures,
        );
        utf8 = rw w.rest-is c.loop-rest.invariant.utf8;
      }
    ]
