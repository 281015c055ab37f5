use Rattle.std.proofs.Common.{◌≡◌}
use Rattle.plugin_session.specs.Hired.{Hiring}
use Rattle.plugin_crew.specs.Post.{IsStay}
use Rattle.plugin_crew.proofs.post.stayed_to_end.Given as goal

-- what was so of the plugin before the visits so far is so after them
abbrev pub invariant-loop : goal.invariant-loop
invariant-loop g l =
    (given : Hiring g.row.O.Denot g.row.P.Denot)
    → IsStay g.O.Object.fits g.O.Object.legal g.O.Object.serves g.O.Object.answers g.P.Plugin.told given l.fn.member l.fn.door
    → IsStay g.O.Object.fits g.O.Object.legal g.O.Object.serves g.O.Object.answers g.P.Plugin.told given l.member l.door
