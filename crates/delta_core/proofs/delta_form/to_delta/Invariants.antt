use denote.Shadow.{shadow}
use denote.Text.{Utf8}
use Rattle.std.proofs.Common.{length}
use Rattle.std.specs.Str.{chars}
use Rattle.plain_edits.specs.UnitDelta.{unit_adds, unit_keeps}
use Rattle.delta_core.specs.Elements.{elements_from}
use Rattle.delta_core.proofs.ElementsLemmas.{IsPutting}
use Rattle.delta_core.proofs.delta_form.to_delta.Given as goal

abbrev pub invariant-loop-rest : goal.invariant-loop-rest
invariant-loop-rest l = record {
  putting : IsPutting l.delta l.at l.walk (chars l.rest) l.text (elements_from (unit_keeps l.units) (unit_adds l.units) 0 0 l.text);
  utf8 : shadow (Utf8 l.rest);
}

abbrev pub decreases-loop-rest : goal.decreases-loop-rest
decreases-loop-rest l = length l.walk
