use Rattle.std.proofs.Common.{sym, subst}
use Rattle.plugin_session.specs.Worker.{MayWork}
use Rattle.plugin_crew.proofs.ThreadLemmas.{given_next}
use Rattle.plugin_crew.proofs.room_front.hire_next.Goals as goal

pub of-requires-clause-may : goal.of-requires-clause-may
of-requires-clause-may g c =
    let room = c.args.room.now.table.shared in
    subst (MayWork g.O.Object.fits g.O.Object.legal room.table_id room.key.first.value) (sym c.hire-hired.ensures.given.0) c.split_pass-pass.ensures.may

pub returns-clause-given : goal.returns-clause-given
returns-clause-given g c =
    let room = c.args.room.now.table.shared in
    given_next room.table_id room.key.first.value c.args.front.now c.split_pass-pass.result c.hire-hired.result c.of.result.given c.requires.room c.split_pass-pass.ensures.next
    c.hire-hired.ensures.first c.hire-hired.ensures.given.0 c.of.ensures.given
