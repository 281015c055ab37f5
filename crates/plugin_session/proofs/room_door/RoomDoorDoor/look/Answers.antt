use Rattle.std.proofs.Common.{ap, sym, ◌∙◌, subst}
use Rattle.xi_plain.specs.Journal.{entries_of}
use Rattle.plugin_session.specs.Call.{IsLookServed}
use Rattle.plugin_session.proofs.SeatLemmas.{no_own}
use Rattle.plugin_session.proofs.room_door.RoomDoorDoor.look.Goals as goal

pub returns-clause-answered : goal.returns-clause-answered
returns-clause-answered g c =
    let pass = c.self.inside.pass in
    let next = c.look.new.pass in
    let after = c.look.ensures in
    let (more, is) = after.seen in
    subst (λ d. IsLookServed (g.O.Object.answers d.first) d.pass.caller c.args.query c.look.result d.pass.seen next.seen) c.self.view_is (
      more,
      no_own pass.caller pass.seen more (ap (entries_of pass.caller) (sym is) ∙ ap (λ who. entries_of who next.seen) (sym after.same.caller) ∙ after.own),
      is,
      after.answered,
    )
