use Rattle.std.proofs.Common.{◌≡◌, ◌+◌, drop, length}
use Rattle.subset_runs.specs.Subset.{items_outside}
use Rattle.rev_engine.proofs.FlatLemmas.{IsPicking}
use Rattle.rev_engine.proofs.flat.picked.Given as goal

abbrev pub invariant-loop-walk : goal.invariant-loop-walk
invariant-loop-walk l = record {
  picking : IsPicking l.made (drop l.gap l.union) l.walk (items_outside l.gone l.union);
  passed : l.gap + length l.walk ≡ length l.union;
}

abbrev pub decreases-loop-walk : goal.decreases-loop-walk
decreases-loop-walk l = length l.walk
