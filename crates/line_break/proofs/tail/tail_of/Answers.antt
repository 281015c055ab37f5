use Rattle.std.proofs.Common.{◌≡◌, ◌++◌, ◌∷◌, [], length, ap, sym, subst, ◌∙◌, arith, length-append, append_assoc, append-nil}
use Rattle.std.specs.Char.{encode_utf8}
use Rattle.std.specs.Str.{chars}
use Rattle.std.proofs.lemmas.List.{nil_from_length}
use Rattle.std.proofs.lemmas.Str.{IsUtf8-past_char, chars_past_char, chars-nil, length-encode, len_utf8_bounds}
use Rattle.line_break.specs.Inner.{IsTail}
use Rattle.line_break.proofs.tail.tail_of.Goals as goal

pub loop-c-preserved : goal.loop-c-preserved
loop-c-preserved c =
    let before = c.loop-c.invariant in
    let first = c.in-Some.ensures.steps.0 in
    let tail = c.then-tail.ensures c.loop-c.yielded before.tail in
    record {
      is_text = IsUtf8-past_char _ _ c.in-Some.c before.is_text first;
      parts =
          append_assoc c.loop-c.yielded (c.in-Some.c ∷ []) (chars c.next.new.self.rest.now) ∙
          ap (λ t. c.loop-c.yielded ++ t) (sym (chars_past_char _ _ c.in-Some.c before.is_text first)) ∙ before.parts;
      tail = tail;
      room =
          omega (
            arith,
            before.room,
            tail.len,
            before.tail.len,
            length-append c.loop-c.yielded (c.in-Some.c ∷ []),
            ap length first,
            length-append (encode_utf8 c.in-Some.c) c.next.new.self.rest.now,
            length-encode c.in-Some.c,
            (len_utf8_bounds c.in-Some.c).0,
          );
    }

pub returns : goal.returns
returns c =
    let before = c.loop-c.invariant in
    let all : c.loop-c.yielded ≡ chars c.args.cluster.now =
    sym (append-nil c.loop-c.yielded) ∙ ap (λ t. c.loop-c.yielded ++ t) (sym (ap chars (nil_from_length _ c.in-None.ensures.steps.0.0) ∙ chars-nil)) ∙ before.parts in
    subst (λ t. IsTail t c.loop-c.tail) all before.tail
