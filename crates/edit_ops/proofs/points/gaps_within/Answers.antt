use Rattle.std.proofs.Common.{arith, ap, length, length-append, ◌∙◌}
use Rattle.std.specs.Char.{encode_utf8}
use Rattle.std.specs.Str.{chars}
use Rattle.std.proofs.lemmas.List.{nil_from_length}
use Rattle.std.proofs.lemmas.Str.{IsUtf8-past_char, chars_past_char, chars-nil, length-encode, len_utf8_bounds}
use Rattle.edit_ops.specs.Inner.{gaps_within}
use Rattle.edit_ops.proofs.PointLemmas.{gaps_within-step, gaps_within-stop}
use Rattle.edit_ops.proofs.points.gaps_within.Goals as goal

pub returns-then-left-width : goal.returns-then-left-width
returns-then-left-width c =
    let before = c.loop-c.invariant in
    let below = rw c.len_utf8-width.ensures.value at c.if-left-width.true in
    let value = before.value in
    let stop =
    gaps_within-stop c.loop-c.left c.in-Some.c (chars c.next.new.self.rest.now) _ (chars_past_char _ _ c.in-Some.c before.is_text c.in-Some.ensures.steps.0) below in
    omega arith

pub loop-c-preserved : goal.loop-c-preserved
loop-c-preserved c =
    let before = c.loop-c.invariant in
    let first = c.in-Some.ensures.steps.0 in
    let reaches = rw c.len_utf8-width.ensures.value at c.if-left-width.false in
    let value = before.value in
    let step = gaps_within-step c.loop-c.left c.in-Some.c (chars c.next.new.self.rest.now) _ (chars_past_char _ _ c.in-Some.c before.is_text first) reaches in record {
      is_text = IsUtf8-past_char _ _ c.in-Some.c before.is_text first;
      value = rw c.len_utf8-width.ensures.value (omega arith);
      room =
          omega (
            arith,
            before.room,
            ap length first,
            length-append (encode_utf8 c.in-Some.c) c.next.new.self.rest.now,
            length-encode c.in-Some.c,
            (len_utf8_bounds c.in-Some.c).0,
          );
    }

pub returns : goal.returns
returns c =
    let value = c.loop-c.invariant.value in
    let none = ap (gaps_within c.loop-c.left) (ap chars (nil_from_length _ c.in-None.ensures.steps.0.0) ∙ chars-nil) in omega arith
