use Rattle.std.proofs.Common.{◌-◌, ◌≤◌, length, take}
use Rattle.plugin_link.specs.Link.{Pushes, link_told}
use Rattle.plugin_link.proofs.push.push_piece.Given as goal

abbrev pub invariant-loop-taken : goal.invariant-loop-taken
invariant-loop-taken g l = record {
  within : l.taken ≤ length l.piece;
  pushes : Pushes (link_told g.L.Link.left g.L.Link.held g.L.Link.faults l.initial.link) (link_told g.L.Link.left g.L.Link.held g.L.Link.faults l.link) (take l.taken l.piece);
}

abbrev pub decreases-loop-taken : goal.decreases-loop-taken
decreases-loop-taken g l = length l.piece - l.taken
