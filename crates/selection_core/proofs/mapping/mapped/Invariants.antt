use Rattle.std.proofs.Common.{◌≡◌, ◌++◌, drop, map}
use Rattle.selection_core.specs.Mapped.{mapped_region}
use Rattle.selection_core.proofs.GapLemmas.{IsMapping}
use Rattle.selection_core.proofs.mapping.mapped.Given as goal

abbrev pub invariant-loop-region : goal.invariant-loop-region
invariant-loop-region l = record {
  so_far : l.list ++ map (mapped_region l.units l.after) (drop l.region-index l.regions) ≡ map (mapped_region l.units l.after) l.regions;
  ahead : IsMapping l.units l.after l.walk (drop l.region-index l.regions);
}
