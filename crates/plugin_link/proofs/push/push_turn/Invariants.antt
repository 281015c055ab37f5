use Rattle.std.proofs.Common.{◌≡◌, ℕ, List, ◌++◌, drop}
use Rattle.plugin_link.specs.Turns.{framed, utf8_of}
use Rattle.plugin_link.specs.Link.{Pushes, link_told}
use Rattle.plugin_link.proofs.push.push_turn.Given as goal

abbrev pub invariant-loop-line : goal.invariant-loop-line
invariant-loop-line g l =
    (put : List ℕ) ×
    Pushes (link_told g.L.Link.left g.L.Link.held g.L.Link.faults l.initial.link) (link_told g.L.Link.left g.L.Link.held g.L.Link.faults l.link) put ×
    (framed (utf8_of l.lines) ≡ put ++ framed (utf8_of (drop l.line-index l.lines)))
