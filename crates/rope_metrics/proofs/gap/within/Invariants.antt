use Rattle.std.specs.Str.{chars, IsUtf8}
use Rattle.rope_metrics.proofs.GapLemmas.{IsGapReading}
use Rattle.rope_metrics.proofs.gap.within.Given as goal

abbrev pub invariant-loop-c : goal.invariant-loop-c
invariant-loop-c l = record {
  is_text : IsUtf8 l.c-iterator.rest.now;
  reading : IsGapReading l.m l.before (chars l.text) l.at l.here l.gap (chars l.c-iterator.rest.now);
}
