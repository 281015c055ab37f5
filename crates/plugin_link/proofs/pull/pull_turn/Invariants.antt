use Rattle.std.proofs.Common.{◌≡◌, length}
use Rattle.plugin_link.specs.Turns.{utf8_of}
use Rattle.plugin_link.specs.Link.{link_told}
use Rattle.plugin_link.specs.Pulling.{HasLines}
use Rattle.plugin_link.proofs.pull.pull_turn.Given as goal

abbrev pub invariant-loop : goal.invariant-loop
invariant-loop g l = record {
  has : HasLines (link_told g.L.Link.left g.L.Link.held g.L.Link.faults l.initial.link) (link_told g.L.Link.left g.L.Link.held g.L.Link.faults l.link) l.initial.kept l.kept (utf8_of l.lines);
  count : length l.lines ≡ l.counter;
}
