use Rattle.std.proofs.Common.{ap, arith, length, length-append}
use Rattle.std.specs.Prelude.{nat_le}
use Rattle.std.specs.Char.{encode_utf8}
use Rattle.std.proofs.lemmas.Str.{IsUtf8-past_char, length-encode, len_utf8_bounds}
use Rattle.rope_node.proofs.TextLemmas.{count-step, count-end}
use Rattle.rope_node.proofs.chunk.wide_count.Goals as goal

pub loop-c-preserved : goal.loop-c-preserved
loop-c-preserved c =
    let step = count-step (λ c. nat_le 65536 c) _ _ c.in-Some.c c.loop-c.invariant.is_text c.in-Some.ensures.steps.0 in
    record {
      is_text = IsUtf8-past_char _ _ c.in-Some.c c.loop-c.invariant.is_text c.in-Some.ensures.steps.0;
      rest = omega (arith, step, c.one_if-count.ensures.value, c.loop-c.invariant.rest);
      room = omega (arith, ap length c.in-Some.ensures.steps.0, length-append (encode_utf8 c.in-Some.c) c.next.new.self.rest.now, length-encode c.in-Some.c, len_utf8_bounds c.in-Some.c, c.one_if-count.ensures.small);
    }

pub returns : goal.returns
returns c = omega (arith, c.loop-c.invariant.rest, count-end (λ c. nat_le 65536 c) _ c.in-None.ensures.steps.0.0)
