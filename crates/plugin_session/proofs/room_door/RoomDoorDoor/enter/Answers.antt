use Rattle.std.proofs.Common.{subst}
use Rattle.plugin_session.specs.Call.{IsAskServed}
use Rattle.plugin_session.proofs.SeatLemmas.{others_of}
use Rattle.plugin_session.proofs.room_door.RoomDoorDoor.enter.Goals as goal

pub returns-clause-served : goal.returns-clause-served
returns-clause-served g c =
    let inside = c.self.inside in
    let next = c.enter-reply.new.pass in
    let after = c.enter-reply.ensures in
    let (others, none, is) = others_of c.enter-reply.result.1 inside.pass next after.same.caller after.seen after.receipt in
    subst (λ d. IsAskServed (g.O.Object.serves d.first) d.pass.caller c.args.ask c.enter-reply.result.0 d.pass.seen next.seen) c.self.view_is (
      others,
      none,
      subst (λ x. g.O.Object.serves inside.room.now.table.shared.key.first.value x inside.pass.caller c.args.ask c.enter-reply.result.0 next.seen) is after.served,
    )
