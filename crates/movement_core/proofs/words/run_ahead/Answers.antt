use Rattle.std.proofs.Common.{arith, ap, sym, length, length-append, ◌∙◌}
use Rattle.std.specs.Char.{encode_utf8}
use Rattle.std.specs.Str.{chars}
use Rattle.std.proofs.lemmas.List.{nil_from_length}
use Rattle.std.proofs.lemmas.Str.{IsUtf8-past_char, chars_past_char, chars-nil, length-encode, len_utf8_bounds}
use Rattle.movement_core.specs.Inner.{run_from}
use Rattle.movement_core.proofs.WordLemmas.{run_from-end, run_from-step, run_from-stop}
use Rattle.movement_core.proofs.words.run_ahead.Goals as goal

pub loop-c-preserved : goal.loop-c-preserved
loop-c-preserved c =
    let before = c.loop-c.invariant in
    let first = c.in-Some.ensures.steps.0 in
    let value = before.value in
    let step =
    run_from-step c.loop-c.first c.in-Some.c (chars c.next.new.self.rest.now) _ (chars_past_char _ _ c.in-Some.c before.is_text first)
    (sym c.goes_on.ensures ∙ c.if-goes_on.true) in
    let begun = ap (λ f. run_from f (chars c.next.new.self.rest.now)) c.begin-first.ensures in record {
      is_text = IsUtf8-past_char _ _ c.in-Some.c before.is_text first;
      value = omega arith;
      room =
          omega (
            arith,
            before.room,
            ap length first,
            length-append (encode_utf8 c.in-Some.c) c.next.new.self.rest.now,
            length-encode c.in-Some.c,
            (len_utf8_bounds c.in-Some.c).0,
          );
    }

pub returns-else-goes_on : goal.returns-else-goes_on
returns-else-goes_on c =
    let before = c.loop-c.invariant in
    let first = c.in-Some.ensures.steps.0 in
    let value = before.value in
    let stop =
    run_from-stop c.loop-c.first c.in-Some.c (chars c.next.new.self.rest.now) _ (chars_past_char _ _ c.in-Some.c before.is_text first)
    (sym c.goes_on.ensures ∙ c.if-goes_on.false) in
    omega arith

pub returns : goal.returns
returns c =
    let value = c.loop-c.invariant.value in
    let none = run_from-end c.loop-c.first _ (ap chars (nil_from_length _ c.in-None.ensures.steps.0.0) ∙ chars-nil) in
    omega arith
