use denote.Shadow.{shadow}
use denote.Text.{Utf8}
use Rattle.std.proofs.Common.{length}
use Rattle.std.specs.Str.{chars}
use Rattle.delta_core.proofs.AppearLemmas.{IsReadingWith}
use Rattle.delta_core.proofs.synthesis.synthesize_of.Given as goal

abbrev pub invariant-loop-rest : goal.invariant-loop-rest
invariant-loop-rest l = record {
  reading : IsReadingWith l.appear l.dead_before l.dead_after l.units (chars l.rest) l.before l.after;
  utf8 : shadow (Utf8 l.rest);
}

abbrev pub decreases-loop-rest : goal.decreases-loop-rest
decreases-loop-rest l = length l.before
