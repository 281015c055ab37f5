use Rattle.std.proofs.Common.{arith, subst, sym}
use Rattle.rope_metrics.specs.Inner.{IsPastLf}
use Rattle.rope_metrics.proofs.PlainLemmas.{no_lf, past_lf}
use Rattle.rope_metrics.proofs.plain.past_lf.Goals as goal

pub returns-in-Some : goal.returns-in-Some
returns-in-Some c =
    let found = c.in-Some.ensures in
    subst (IsPastLf c.args.text.now) (sym c.split_at.ensures.back) (past_lf c.args.text.now c.in-Some.at found.0.high found.0.before found.1)

pub returns-in-None : goal.returns-in-None
returns-in-None c = absurd (omega (arith, c.requires, no_lf c.args.text.now c.in-None.ensures))
