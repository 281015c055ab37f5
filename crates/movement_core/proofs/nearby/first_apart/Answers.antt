use Rattle.std.proofs.Common.{arith, ap, sym, length, length-append, ◌∙◌}
use Rattle.std.specs.Char.{encode_utf8}
use Rattle.std.specs.Str.{chars}
use Rattle.std.proofs.lemmas.List.{nil_from_length}
use Rattle.std.proofs.lemmas.Str.{IsUtf8-past_char, chars_past_char, chars-nil, length-encode, len_utf8_bounds}
use Rattle.movement_core.specs.Nearby.{first_apart}
use Rattle.movement_core.proofs.ApartLemmas.{first_apart-here, first_apart-past}
use Rattle.movement_core.proofs.nearby.first_apart.Goals as goal

pub loop-c-preserved : goal.loop-c-preserved
loop-c-preserved c =
    let before = c.loop-c.invariant in
    let first = c.in-Some.ensures.steps.0 in
    let step =
    first_apart-past c.loop-c.last c.loop-c.at c.in-Some.c (chars c.next.new.self.rest.now) _ (chars_past_char _ _ c.in-Some.c before.is_text first)
    (sym c.are_apart.ensures ∙ c.if-are_apart.false) in record {
      is_text = IsUtf8-past_char _ _ c.in-Some.c before.is_text first;
      value = sym step ∙ before.value;
      room =
          omega (
            arith,
            before.room,
            ap length first,
            length-append (encode_utf8 c.in-Some.c) c.next.new.self.rest.now,
            length-encode c.in-Some.c,
            (len_utf8_bounds c.in-Some.c).0,
          );
    }

pub returns-then-are_apart : goal.returns-then-are_apart
returns-then-are_apart c =
    let before = c.loop-c.invariant in
    sym (first_apart-here c.loop-c.last c.loop-c.at c.in-Some.c (chars c.next.new.self.rest.now) _ (chars_past_char _ _ c.in-Some.c before.is_text c.in-Some.ensures.steps.0)
    (sym c.are_apart.ensures ∙ c.if-are_apart.true)) ∙ before.value

pub returns : goal.returns
returns c =
    sym (ap (first_apart c.loop-c.last c.loop-c.at) (ap chars (nil_from_length _ c.in-None.ensures.steps.0.0) ∙ chars-nil)) ∙ c.loop-c.invariant.value
