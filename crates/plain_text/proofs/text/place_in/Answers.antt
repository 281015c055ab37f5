use Rattle.std.proofs.Common.{ap, arith, length, length-append}
use Rattle.std.specs.Char.{encode_utf8}
use Rattle.std.proofs.lemmas.Str.{IsUtf8-past_char, length-encode}
use Rattle.plain_text.proofs.callers.TextLemmas.{place_of-step, place_of-end}
use Rattle.plain_text.proofs.text.place_in.Goals as goal

pub loop-c-preserved : goal.loop-c-preserved
loop-c-preserved c =
    let step = place_of-step _ _ c.in-Some.c _ c.loop-c.invariant.is_text c.in-Some.ensures.steps.0 c.if-left-eq0.false in
    record {
      is_text = IsUtf8-past_char _ _ c.in-Some.c c.loop-c.invariant.is_text c.in-Some.ensures.steps.0;
      rest = omega (arith, step, c.len_utf8.ensures.value, c.loop-c.invariant.rest);
      room = omega (arith, ap length c.in-Some.ensures.steps.0, length-append (encode_utf8 c.in-Some.c) c.next.new.self.rest.now, length-encode c.in-Some.c, c.len_utf8.ensures.value);
    }

pub returns-in-None : goal.returns-in-None
returns-in-None c = omega (arith, c.loop-c.invariant.rest, place_of-end _ c.loop-c.left c.in-None.ensures.steps.0.0)
