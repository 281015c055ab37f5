use Rattle.std.proofs.Common.{◌≡◌, ℕ, ◌-◌, ◌^◌, ◌≤◌, List, ◌++◌, length, take}
use Rattle.plugin_link.specs.Turns.{HasNoLf}
use Rattle.plugin_link.specs.Link.{Pulls, link_told}
use Rattle.plugin_link.proofs.pull.pull_line.Given as goal

abbrev pub invariant-loop-at : goal.invariant-loop-at
invariant-loop-at g l = record {
  fetched :
      (got : List ℕ) ×
      Pulls (link_told g.L.Link.left g.L.Link.held g.L.Link.faults l.initial.link) (link_told g.L.Link.left g.L.Link.held g.L.Link.faults l.link) got ×
      (l.kept ≡ l.initial.kept ++ got);
  inside : l.seen ≤ length l.kept;
  none : HasNoLf (take l.seen l.kept);
}

abbrev pub decreases-loop-at : goal.decreases-loop-at
decreases-loop-at g l = 2 ^ 24 - length l.kept
