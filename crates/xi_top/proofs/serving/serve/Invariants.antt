use Rattle.std.proofs.Common.{◌-◌, ◌^◌}
use Rattle.outside.specs.Source.{source_state}
use Rattle.xi_top.specs.Served.{IsSoFar}
use Rattle.xi_top.specs.InnerRun.{IsSmall, begun_of, weight}
use Rattle.xi_top.proofs.serving.serve.Given as goal

abbrev pub invariant-loop-outcome : goal.invariant-loop-outcome
invariant-loop-outcome g l = record {
  ready : g.L.LineTaker.ready l.run.taker;
  small : IsSmall (begun_of l.run.intake);
  later : g.L.LineTaker.later l.initial.run.taker l.run.taker;
  so_far : IsSoFar g.L.LineTaker.seen g.L.LineTaker.later g.L.LineTaker.ready
      (source_state g.S.Source.left g.S.Source.faults g.S.Source.failures g.S.Source.reads l.initial.source)
      (source_state g.S.Source.left g.S.Source.faults g.S.Source.failures g.S.Source.reads l.source) l.initial.run.taker l.run;
}

abbrev pub decreases-loop-outcome : goal.decreases-loop-outcome
decreases-loop-outcome g l = 2 ^ 65 - weight (begun_of l.run.intake)
