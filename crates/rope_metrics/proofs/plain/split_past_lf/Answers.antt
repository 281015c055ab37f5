use Rattle.rope_metrics.proofs.PlainLemmas.{passing-next, passing-start}
use Rattle.rope_metrics.proofs.plain.split_past_lf.Goals as goal

pub loop-left-preserved : goal.loop-left-preserved
loop-left-preserved c = record {
  way = passing-next _ _ _ _ c.loop-left.invariant.way c.past_lf-rest.result.now c.loop-left-test.true c.past_lf-rest.ensures;
}

pub loop-left-init : goal.loop-left-init
loop-left-init c = record { way = passing-start c.args.text.now c.args.number }
