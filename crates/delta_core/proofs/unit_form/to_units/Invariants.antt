use Rattle.std.proofs.Common.{drop}
use Rattle.delta_core.proofs.UnitLemmas.{IsReading}
use Rattle.delta_core.proofs.unit_form.to_units.Given as goal

abbrev pub invariant-loop-el : goal.invariant-loop-el
invariant-loop-el l = IsReading l.text l.delta.els l.units l.at (drop l.el-index l.delta.els)
