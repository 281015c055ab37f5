use Rattle.std.proofs.Common.{◌≡◌, ◌+◌, ◌≤◌, List, ℕ, [], ◌∷◌, subst, arith}
use Rattle.std.specs.Str.{chars}
use Rattle.std.proofs.lemmas.List.{nil_from_length}
use Rattle.std.proofs.lemmas.Str.{chars-nil, chars_past_char, IsUtf8-past_char}
use Rattle.rope_metrics.specs.Measure.{long}
use Rattle.rope_metrics.proofs.GapLemmas.{gap-ended, gap-fits, gap-found, gap-here_fits, gap-next, IsGapReading}
use Rattle.rope_metrics.proofs.gap.within.Goals as goal

pub overflow_add-here : goal.overflow_add-here
overflow_add-here c =
    let reading = subst (λ (xs : List ℕ). IsGapReading c.args.m c.args.before.now (chars c.args.text.now) c.args.at c.loop-c.here c.loop-c.gap xs) (chars_past_char _ _ c.in-Some.c c.loop-c.invariant.is_text c.in-Some.ensures.steps.0) c.loop-c.invariant.reading in
    omega (arith, c.of_char-here.ensures, gap-here_fits _ _ _ _ _ _ c.in-Some.c _ reading c.requires.fits)

pub overflow_add-gap : goal.overflow_add-gap
overflow_add-gap c =
    let reading = subst (λ (xs : List ℕ). IsGapReading c.args.m c.args.before.now (chars c.args.text.now) c.args.at c.loop-c.here c.loop-c.gap xs) (chars_past_char _ _ c.in-Some.c c.loop-c.invariant.is_text c.in-Some.ensures.steps.0) c.loop-c.invariant.reading in
    omega (arith, gap-fits _ _ _ _ _ _ c.in-Some.c _ reading c.requires.fits)

pub returns-then-at-here : goal.returns-then-at-here
returns-then-at-here c =
    let reading = subst (λ (xs : List ℕ). IsGapReading c.args.m c.args.before.now (chars c.args.text.now) c.args.at c.loop-c.here c.loop-c.gap xs) (chars_past_char _ _ c.in-Some.c c.loop-c.invariant.is_text c.in-Some.ensures.steps.0) c.loop-c.invariant.reading in
    gap-found _ _ _ _ _ _ c.in-Some.c _ reading (omega (arith, c.of_char-here.ensures, c.if-at-here.true))

pub loop-c-preserved : goal.loop-c-preserved
loop-c-preserved c =
    let reading = subst (λ (xs : List ℕ). IsGapReading c.args.m c.args.before.now (chars c.args.text.now) c.args.at c.loop-c.here c.loop-c.gap xs) (chars_past_char _ _ c.in-Some.c c.loop-c.invariant.is_text c.in-Some.ensures.steps.0) c.loop-c.invariant.reading in
    let within : c.loop-c.here + long c.args.m (c.in-Some.c ∷ []) ≤ c.args.at = omega (arith, c.of_char-here.ensures, c.if-at-here.false) in
    record {
      is_text = IsUtf8-past_char _ _ c.in-Some.c c.loop-c.invariant.is_text c.in-Some.ensures.steps.0;
      reading = rw c.of_char-here.ensures (gap-next _ _ _ _ _ _ c.in-Some.c _ reading within);
    }

pub returns : goal.returns
returns c =
    let none : chars c.loop-c.c-iterator.rest.now ≡ [] = rw (nil_from_length _ c.in-None.ensures.steps.0.0) chars-nil in
    absurd (gap-ended _ _ _ _ _ _ _ c.loop-c.invariant.reading none c.requires.passed)
