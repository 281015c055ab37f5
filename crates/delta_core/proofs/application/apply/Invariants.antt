use denote.Shadow.{shadow}
use denote.Text.{Utf8}
use Rattle.std.proofs.Common.{length}
use Rattle.std.specs.Str.{chars}
use Rattle.delta_core.specs.Units.{text_after}
use Rattle.delta_core.proofs.StepLemmas.{IsMaking}
use Rattle.delta_core.proofs.application.apply.Given as goal

abbrev pub invariant-loop-rest : goal.invariant-loop-rest
invariant-loop-rest l = record {
  making : IsMaking l.made l.walk (chars l.rest) (text_after l.units l.text);
  utf8 : shadow (Utf8 l.rest);
}

abbrev pub decreases-loop-rest : goal.decreases-loop-rest
decreases-loop-rest l = length l.walk
