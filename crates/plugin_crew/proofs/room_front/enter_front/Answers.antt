use Rattle.std.proofs.Common.{sym, subst}
use Rattle.xi_plain.specs.Journal.{front_entries}
use Rattle.room_lock.specs.Room.{before_call}
use Rattle.plugin_crew.specs.Taker.{HasTaken}
use Rattle.plugin_crew.proofs.ThreadLemmas.{front_taken, front_entered}
use Rattle.plugin_crew.proofs.room_front.enter_front.Goals as goal

pub enter-reply-requires-clause-fits : goal.enter-reply-requires-clause-fits
enter-reply-requires-clause-fits g c =
    subst (λ who. g.O.Object.fits c.args.room.now.table.shared.key.first.value who c.args.ask) (sym c.requires.front) c.requires.fits

pub returns-clause-took : goal.returns-clause-took
returns-clause-took g c =
    let serves = g.O.Object.serves c.args.room.now.table.shared.key.first.value in
    let before = c.args.pass.now in
    let after = c.enter-reply.new.pass in
    let call = c.enter-reply.ensures in
    let (given, receipt) = c.enter-reply.result in
    let served = subst (λ who. serves (before_call receipt after.seen) who c.args.ask given after.seen) c.requires.front call.served in
    subst (λ t. HasTaken (front_entries before.seen) t (front_entries after.seen)) (sym c.took_of.ensures)
    (front_taken serves c.args.ask given receipt before after c.requires.faults c.requires.front call.same call.entered call.receipt served)

pub returns-clause-served : goal.returns-clause-served
returns-clause-served g c =
    let serves = g.O.Object.serves c.args.room.now.table.shared.key.first.value in
    let before = c.args.pass.now in
    let after = c.enter-reply.new.pass in
    let call = c.enter-reply.ensures in
    let (given, receipt) = c.enter-reply.result in
    let served = subst (λ who. serves (before_call receipt after.seen) who c.args.ask given after.seen) c.requires.front call.served in
    front_entered serves c.args.ask given receipt before after c.took_of.result c.requires.front call.same call.seen call.receipt c.took_of.ensures served
