use Rattle.std.proofs.Common.{arith, sym, ◌∙◌}
use Rattle.rope_metrics.proofs.PlainLemmas.{lines-cut, lines-long, plain-cut, plain-whole}
use Rattle.rope_metrics.proofs.plain.split_at_offset.Goals as goal

pub returns-then-is_plain : goal.returns-then-is_plain
returns-then-is_plain c =
    plain-cut c.args.text.now c.requires.plain c.args.m (sym c.is_plain.ensures ∙ c.if-is_plain.true) c.args.at c.split_at.result.0.now c.split_at.result.1.now c.requires.inside
    c.split_at.ensures.front c.split_at.ensures.back

pub split_at-requires : goal.split_at-requires
split_at-requires c = omega (arith, c.requires.inside, plain-whole c.args.text.now c.requires.plain c.args.m (sym c.is_plain.ensures ∙ c.if-is_plain.true))

pub split_past_lf-requires-clause-inside : goal.split_past_lf-requires-clause-inside
split_past_lf-requires-clause-inside c =
    omega (arith, c.requires.inside, lines-long c.args.m (sym c.is_plain.ensures ∙ c.if-is_plain.false) c.args.text.now)

pub returns : goal.returns
returns c =
    lines-cut c.args.m (sym c.is_plain.ensures ∙ c.if-is_plain.false) c.args.text.now c.args.at c.split_past_lf.result.0.now c.split_past_lf.result.1.now
    c.split_past_lf.ensures
