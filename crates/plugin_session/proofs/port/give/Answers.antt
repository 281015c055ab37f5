use Rattle.std.proofs.Common.{[], ◌∷◌, subst}
use Rattle.plugin_session.specs.Turn.{TellsMore, turn_had}
use Rattle.plugin_session.proofs.DoorLemmas.{Used-none}
use Rattle.plugin_session.proofs.VisitLemmas.{turn_told}
use Rattle.plugin_session.proofs.port.give.Goals as goal

pub returns-then-over : goal.returns-then-over
returns-then-over g c =
    let d = g.D.Door in
    let told = g.P.Plugin.told in
    let turn = c.turn-turn.result in
    record {
      given = (
        [],
        turn_had c.args.lines turn ∷ [],
        Used-none d.caller d.journal d.serves d.answers d.later d.ready d.told c.args.door.now (g.met.D.Door.same c.args.door.now) c.requires.ready,
        subst (λ lines. TellsMore (told c.args.plugin.now) (told c.turn-turn.new.self) (turn_had lines turn ∷ [])) c.as_slice.ensures c.turn-turn.ensures,
        turn_told c.args.lines turn.lines turn.done c.args.over c.if-over.true,
        c.new.ensures,
      );
    }
