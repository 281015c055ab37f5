use Rattle.std.specs.Prelude.{drop}
use Rattle.selection_core.specs.Mapped.{AreWithin}
use Rattle.edit_cases.proofs.selections.are_within.Given as goal

abbrev pub invariant-loop-region : goal.invariant-loop-region
invariant-loop-region l = AreWithin l.len (drop l.region-index l.regions) → AreWithin l.len l.regions
