use denote.Param.Send.{sendable}
use Rattle.std.proofs.Common.{◌+◌, ap, ◌∙◌}
use Rattle.outside.proofs.mem_shelf.MemShelf.TheSendSync as MemShelf
use Rattle.outside.proofs.mem_sink.MemSink.TheSendSync as MemSink
use Rattle.room_lock.specs.Room.{Known}
use Rattle.session_sent.proofs.ForCallers.{Core-send}
use Rattle.object_cases.proofs.rooms.in_a_room.Goals as goal

-- a session may be sent where its sink and its shelf may
pub both_ask-front-requires-send-O : goal.both_ask-front-requires-send-O
both_ask-front-requires-send-O g c κs within = search (sendable, Core-send, MemSink.the_send, MemShelf.the_send)

-- both passes are of the room, one of each caller, and no other was made
pub close_by-requires-clause-all : goal.close_by-requires-clause-all
close_by-requires-clause-all g c =
    let first = c.in-Ok.ensures.pass in
    let same = c.split-plugin.ensures.same in
    let next = c.split-plugin.ensures.next in
    let both = c.both_ask-front.ensures in
    let last = c.ask_once-front.ensures in (
      (
        last.room ∙ both.0.room ∙ ap (λ (p : Known). p.room) same ∙ ap (λ (p : Known). p.room) first,
        last.caller ∙ both.0.caller ∙ ap (λ (p : Known). p.caller) same ∙ ap (λ (p : Known). p.caller) first,
        (
          both.1.room ∙ ap (λ (p : Known). p.room) next ∙ ap (λ (p : Known). p.room) first,
          both.1.caller ∙ ap (λ (p : Known). p.caller) next ∙ ap (λ (p : Known). p.made) first,
          tt,
        ),
      ),
      last.made ∙ both.0.made ∙ ap (λ (p : Known). p.made) same ∙ ap (λ (p : Known). p.made + 1) first,
    )
