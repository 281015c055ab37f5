use Rattle.std.proofs.Common.{◌≡◌, ◌+◌, ◌<◌, List, ℕ, [], ◌∷◌, subst, arith}
use Rattle.std.specs.Str.{chars}
use Rattle.std.proofs.lemmas.List.{nil_from_length}
use Rattle.std.proofs.lemmas.Str.{chars-nil, chars_past_char, IsUtf8-past_char}
use Rattle.rope_metrics.specs.Measure.{long}
use Rattle.rope_metrics.proofs.OffsetLemmas.{reading-ended, reading-found, reading-from_fits, reading-missed, reading-next, reading-to_fits, IsReading}
use Rattle.rope_metrics.proofs.offset.within.Goals as goal

pub overflow_add-here : goal.overflow_add-here
overflow_add-here c =
    let reading = subst (λ (xs : List ℕ). IsReading c.args.from c.args.to c.args.before.now (chars c.args.text.now) c.args.at c.loop-c.here c.loop-c.there xs) (chars_past_char _ _ c.in-Some.c c.loop-c.invariant.is_text c.in-Some.ensures.steps.0) c.loop-c.invariant.reading in
    omega (arith, c.of_char-here.ensures, reading-from_fits _ _ _ _ _ _ _ c.in-Some.c _ reading c.requires.fits)

pub overflow_add-there : goal.overflow_add-there
overflow_add-there c =
    let reading = subst (λ (xs : List ℕ). IsReading c.args.from c.args.to c.args.before.now (chars c.args.text.now) c.args.at c.loop-c.here c.loop-c.there xs) (chars_past_char _ _ c.in-Some.c c.loop-c.invariant.is_text c.in-Some.ensures.steps.0) c.loop-c.invariant.reading in
    omega (arith, c.of_char-there.ensures, reading-to_fits _ _ _ _ _ _ _ c.in-Some.c _ reading c.requires.fits)

pub returns-then-here-at-clause-some : goal.returns-then-here-at-clause-some
returns-then-here-at-clause-some c =
    let reading = subst (λ (xs : List ℕ). IsReading c.args.from c.args.to c.args.before.now (chars c.args.text.now) c.args.at c.loop-c.here c.loop-c.there xs) (chars_past_char _ _ c.in-Some.c c.loop-c.invariant.is_text c.in-Some.ensures.steps.0) c.loop-c.invariant.reading in
    rw c.of_char-there.ensures (reading-found _ _ _ _ _ _ _ c.in-Some.c _ reading (omega (arith, c.of_char-here.ensures, c.if-here-at.true)))

pub returns-then-here-at-2-clause-none : goal.returns-then-here-at-2-clause-none
returns-then-here-at-2-clause-none c =
    let reading = subst (λ (xs : List ℕ). IsReading c.args.from c.args.to c.args.before.now (chars c.args.text.now) c.args.at c.loop-c.here c.loop-c.there xs) (chars_past_char _ _ c.in-Some.c c.loop-c.invariant.is_text c.in-Some.ensures.steps.0) c.loop-c.invariant.reading in
    reading-missed _ _ _ _ _ _ _ c.in-Some.c _ reading (omega (arith, c.of_char-here.ensures, c.if-here-at-2.true))

pub loop-c-preserved : goal.loop-c-preserved
loop-c-preserved c =
    let reading = subst (λ (xs : List ℕ). IsReading c.args.from c.args.to c.args.before.now (chars c.args.text.now) c.args.at c.loop-c.here c.loop-c.there xs) (chars_past_char _ _ c.in-Some.c c.loop-c.invariant.is_text c.in-Some.ensures.steps.0) c.loop-c.invariant.reading in
    let below : c.loop-c.here + long c.args.from (c.in-Some.c ∷ []) < c.args.at = omega (arith, c.of_char-here.ensures, c.if-here-at.false, c.if-here-at-2.false) in
    record {
      is_text = IsUtf8-past_char _ _ c.in-Some.c c.loop-c.invariant.is_text c.in-Some.ensures.steps.0;
      reading = rw (c.of_char-here.ensures, c.of_char-there.ensures) (reading-next _ _ _ _ _ _ _ c.in-Some.c _ reading below);
    }

pub returns-clause-none : goal.returns-clause-none
returns-clause-none c =
    let none : chars c.loop-c.c-iterator.rest.now ≡ [] = rw (nil_from_length _ c.in-None.ensures.steps.0.0) chars-nil in
    reading-ended _ _ _ _ _ _ _ _ c.loop-c.invariant.reading none c.requires.reached
