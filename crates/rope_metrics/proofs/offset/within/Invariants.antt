use Rattle.std.specs.Str.{chars, IsUtf8}
use Rattle.rope_metrics.proofs.OffsetLemmas.{IsReading}
use Rattle.rope_metrics.proofs.offset.within.Given as goal

abbrev pub invariant-loop-c : goal.invariant-loop-c
invariant-loop-c l = record {
  is_text : IsUtf8 l.c-iterator.rest.now;
  reading : IsReading l.from l.to l.before (chars l.text) l.at l.here l.there (chars l.c-iterator.rest.now);
}
