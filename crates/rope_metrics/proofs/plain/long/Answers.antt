use Rattle.std.proofs.Common.{add-zero, ap, sym, ◌∙◌, ◌+◌, length}
use Rattle.memchr.specs.Find.{is_byte}
use Rattle.memchr.proofs.lemmas.CallerLemmas.{length-places}
use Rattle.rope_metrics.proofs.PlainLemmas.{lines-long, plain-whole}
use Rattle.rope_metrics.proofs.plain.long.Goals as goal

pub returns-then-is_plain : goal.returns-then-is_plain
returns-then-is_plain c = sym (plain-whole c.args.text.now c.requires c.args.m (sym c.is_plain.ensures ∙ c.if-is_plain.true))

pub returns : goal.returns
returns c =
    sym (add-zero c.loop.count) ∙ ap (λ rest. c.loop.count + length rest) (sym c.in-None.ensures.steps.0) ∙ c.loop.invariant.counted ∙
    length-places (is_byte 10) c.args.text.now ∙
    sym (lines-long c.args.m (sym c.is_plain.ensures ∙ c.if-is_plain.false) c.args.text.now)
