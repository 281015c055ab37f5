use Rattle.std.proofs.Common.{length}
use Rattle.plain_edits.specs.UnitDelta.{unit_adds, unit_keeps}
use Rattle.plain_edits.specs.Styles.{mapped_layer}
use Rattle.span_styles.proofs.MapLemmas.{IsMapping}
use Rattle.span_styles.proofs.layer.mapped.Given as goal

abbrev pub invariant-loop-rest : goal.invariant-loop-rest
invariant-loop-rest l = IsMapping l.made l.walk l.rest (mapped_layer (unit_keeps l.units) (unit_adds l.units) l.layer)

abbrev pub decreases-loop-rest : goal.decreases-loop-rest
decreases-loop-rest l = length l.walk
