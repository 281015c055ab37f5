use Rattle.std.proofs.Common.{◌≡◌, ◌++◌, drop, length, map}
use Rattle.selection_core.specs.Mapped.{AreWithin}
use Rattle.movement_core.specs.Motions.{region_after}
use Rattle.movement_core.proofs.moves.moved_regions.Given as goal

abbrev pub invariant-loop-region : goal.invariant-loop-region
invariant-loop-region g l =
    let after = region_after l.tab (g.T.TextView.text_of l.view) (g.T.TextView.pieces_of l.view) l.motion l.extend in record {
      so_far : l.list ++ map after (drop l.region-index l.regions) ≡ map after l.regions;
      within : AreWithin (length (g.T.TextView.text_of l.view)) (drop l.region-index l.regions);
    }
