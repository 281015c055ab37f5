use Rattle.std.proofs.Common.{ap, sym, subst}
use Rattle.plugin_session.specs.Worker.{MayWork}
use Rattle.xi_forms.proofs.SeatLemmas.{given_next, may_next}
use Rattle.xi_forms.proofs.front.seat_next.Goals as goal

pub of-requires-clause-may : goal.of-requires-clause-may
of-requires-clause-may g c =
    let room = c.args.room.now.table.shared in
    subst (MayWork g.O.Object.fits g.O.Object.legal room.table_id room.key.first.value) (sym (ap (λ h. h.pass) c.turned_away-hired.ensures))
    (may_next g.O.Object.fits g.O.Object.legal room.table_id room.key.first.value c.args.front.now c.split-pass.result c.requires.room
    c.split-pass.ensures.next c.split-pass.ensures.own c.requires.ready c.requires.lawful)

pub returns-clause-given : goal.returns-clause-given
returns-clause-given g c =
    let room = c.args.room.now.table.shared in
    let hired = c.turned_away-hired.ensures in
    given_next room.table_id room.key.first.value c.args.front.now c.split-pass.result c.turned_away-hired.result c.of.result.given c.requires.room
    c.split-pass.ensures.next (ap (λ h. h.first) hired) (ap (λ h. h.pass) hired) c.of.ensures.given
