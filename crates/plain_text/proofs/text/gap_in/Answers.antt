use Rattle.std.proofs.Common.{sym, ◌∙◌, arith, length}
use Rattle.std.specs.Char.{encode_utf8}
use Rattle.std.proofs.lemmas.Str.{IsUtf8-past_char, length-encode}
use Rattle.std.proofs.Common.{length-append, ap}
use Rattle.plain_text.proofs.callers.TextLemmas.{gap_from-here, gap_from-inside, gap_from-step, gap_from-end}
use Rattle.plain_text.proofs.text.gap_in.Goals as goal

pub returns-then-left-eq0 : goal.returns-then-left-eq0
returns-then-left-eq0 c = sym (gap_from-here _ _ _ c.if-left-eq0.true) ∙ c.loop-c.invariant.rest

pub returns-then-left-width : goal.returns-then-left-width
returns-then-left-width c =
    let below = rw c.len_utf8-width.ensures.value at c.if-left-width.true in
    sym (gap_from-inside _ _ _ c.in-Some.c _ c.loop-c.invariant.is_text c.in-Some.ensures.steps.0 c.if-left-eq0.false below) ∙
    c.loop-c.invariant.rest

pub loop-c-preserved : goal.loop-c-preserved
loop-c-preserved c =
    let reaches = rw c.len_utf8-width.ensures.value at c.if-left-width.false in
    record {
      is_text = IsUtf8-past_char _ _ c.in-Some.c c.loop-c.invariant.is_text c.in-Some.ensures.steps.0;
      rest =
          rw c.len_utf8-width.ensures.value
          (sym (gap_from-step _ _ _ c.in-Some.c _ c.loop-c.invariant.is_text c.in-Some.ensures.steps.0 c.if-left-eq0.false reaches) ∙
          c.loop-c.invariant.rest);
      room = omega (arith, ap length c.in-Some.ensures.steps.0, length-append (encode_utf8 c.in-Some.c) c.next.new.self.rest.now, length-encode c.in-Some.c);
    }

pub returns-then-left-eq0-2 : goal.returns-then-left-eq0-2
returns-then-left-eq0-2 c = sym (gap_from-here _ _ _ c.if-left-eq0-2.true) ∙ c.loop-c.invariant.rest

pub returns-else-left-eq0-2 : goal.returns-else-left-eq0-2
returns-else-left-eq0-2 c =
    sym (gap_from-end _ _ _ c.in-None.ensures.steps.0.0 c.if-left-eq0-2.false) ∙ c.loop-c.invariant.rest
