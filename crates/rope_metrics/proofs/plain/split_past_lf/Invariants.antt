use Rattle.rope_metrics.proofs.PlainLemmas.{IsPassing}
use Rattle.rope_metrics.proofs.plain.split_past_lf.Given as goal

abbrev pub invariant-loop-left : goal.invariant-loop-left
invariant-loop-left l = record {
  way : IsPassing l.fn.text l.fn.number l.left l.rest;
}

abbrev pub decreases-loop-left : goal.decreases-loop-left
decreases-loop-left l = l.left
