use Rattle.std.proofs.Common.{length}
use Rattle.plain_edits.specs.UnitDelta.{unit_adds, unit_keeps}
use Rattle.delta_core.specs.Wire.{wire_from}
use Rattle.doc_layout.proofs.WireLemmas.{IsWiring}
use Rattle.doc_layout.proofs.wire.to_wire.Given as goal

abbrev pub invariant-loop-walk : goal.invariant-loop-walk
invariant-loop-walk l = IsWiring l.wire l.gap l.at l.walk l.before (wire_from (unit_keeps l.units) (unit_adds l.units) 0 0 l.before)

abbrev pub decreases-loop-walk : goal.decreases-loop-walk
decreases-loop-walk l = length l.walk
