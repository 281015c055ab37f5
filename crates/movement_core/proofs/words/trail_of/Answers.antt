use Rattle.std.proofs.Common.{◌≡◌, ◌++◌, ◌∷◌, [], length, ap, sym, subst, ◌∙◌, arith, length-append, append_assoc, append-nil}
use Rattle.std.specs.Char.{encode_utf8}
use Rattle.std.specs.Str.{chars}
use Rattle.std.proofs.lemmas.List.{nil_from_length}
use Rattle.std.proofs.lemmas.Str.{IsUtf8-past_char, chars_past_char, chars-nil, length-encode, len_utf8_bounds}
use Rattle.movement_core.specs.Inner.{IsTrail}
use Rattle.movement_core.proofs.WordLemmas.{IsTrail-le}
use Rattle.movement_core.proofs.words.trail_of.Goals as goal

pub with_last-trail-requires-clause-len : goal.with_last-trail-requires-clause-len
with_last-trail-requires-clause-len c =
    let le = IsTrail-le c.loop-c.yielded c.loop-c.trail c.loop-c.invariant.trail in
    let room = c.loop-c.invariant.room in
    let len = le.0 in
    let bound = c.type_inv.text in
    omega (
      arith,
      ap length c.in-Some.ensures.steps.0,
      length-append (encode_utf8 c.in-Some.c) c.next.new.self.rest.now,
      length-encode c.in-Some.c,
      (len_utf8_bounds c.in-Some.c).0,
    )

pub with_last-trail-requires-clause-run : goal.with_last-trail-requires-clause-run
with_last-trail-requires-clause-run c =
    let le = IsTrail-le c.loop-c.yielded c.loop-c.trail c.loop-c.invariant.trail in
    let room = c.loop-c.invariant.room in
    let run = le.1 in
    let bound = c.type_inv.text in
    omega (
      arith,
      ap length c.in-Some.ensures.steps.0,
      length-append (encode_utf8 c.in-Some.c) c.next.new.self.rest.now,
      length-encode c.in-Some.c,
      (len_utf8_bounds c.in-Some.c).0,
    )

pub loop-c-preserved : goal.loop-c-preserved
loop-c-preserved c =
    let before = c.loop-c.invariant in
    let first = c.in-Some.ensures.steps.0 in record {
      is_text = IsUtf8-past_char _ _ c.in-Some.c before.is_text first;
      parts =
          append_assoc c.loop-c.yielded (c.in-Some.c ∷ []) (chars c.next.new.self.rest.now) ∙
          ap (λ t. c.loop-c.yielded ++ t) (sym (chars_past_char _ _ c.in-Some.c before.is_text first)) ∙ before.parts;
      trail = c.with_last-trail.ensures c.loop-c.yielded before.trail;
      room =
          omega (
            arith,
            before.room,
            length-append c.loop-c.yielded (c.in-Some.c ∷ []),
            ap length first,
            length-append (encode_utf8 c.in-Some.c) c.next.new.self.rest.now,
            length-encode c.in-Some.c,
            (len_utf8_bounds c.in-Some.c).0,
          );
    }

pub returns : goal.returns
returns c =
    let before = c.loop-c.invariant in
    let all : c.loop-c.yielded ≡ chars c.args.text.now =
    sym (append-nil c.loop-c.yielded) ∙ ap (λ t. c.loop-c.yielded ++ t) (sym (ap chars (nil_from_length _ c.in-None.ensures.steps.0.0) ∙ chars-nil)) ∙ before.parts in
    subst (λ t. IsTrail t c.loop-c.trail) all before.trail
