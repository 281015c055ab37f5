use Rattle.std.proofs.Common.{◌≡◌, ◌++◌, drop, map, false, length}
use Rattle.selection_core.specs.Mapped.{AreWithin}
use Rattle.movement_core.specs.Motions.{target}
use Rattle.edit_ops.specs.Replacements.{deleted_range}
use Rattle.edit_ops.proofs.deletions.ranges_to.Given as goal

abbrev pub invariant-loop-region : goal.invariant-loop-region
invariant-loop-region g l = record {
  so_far : l.ranges ++
      map (λ region. deleted_range (target l.tab (g.T.TextView.text_of l.view) (g.T.TextView.pieces_of l.view) l.motion false region) region)
      (drop l.region-index l.region-items) ≡
      map (λ region. deleted_range (target l.tab (g.T.TextView.text_of l.view) (g.T.TextView.pieces_of l.view) l.motion false region) region) l.region-items;
  within : AreWithin (length (g.T.TextView.text_of l.view)) (drop l.region-index l.region-items);
}
