use Rattle.std.proofs.Common.{[], inl, inr, false, refl, ◌∙◌, subst}
use Rattle.plugin_session.specs.Visit.{HasTurn}
use Rattle.plugin_session.proofs.DoorLemmas.{TellsMore-none}
use Rattle.plugin_session.proofs.VisitLemmas.{place_short, place_turn, answers_turn}
use Rattle.plugin_session.proofs.port.visit_first.Goals as goal

pub returns-in-Err : goal.returns-in-Err
returns-in-Err g c =
    let (calls, used, short, none, is) = c.end_short.ensures.ended in
    record {
      visited = (
        calls,
        [],
        used,
        TellsMore-none (g.P.Plugin.told c.args.plugin.now),
        inr (refl, short),
        refl,
        (λ place. place_short place calls c.end_short.result short),
      );
    }

pub returns-in-Ok : goal.returns-in-Ok
returns-in-Ok g c =
    let (calls, turns, used, told, turn, answered) = c.give-given.ensures.given in
    let (start, starts, is) = c.in-Ok.ensures in
    let ended = c.give-given.result.1 in
    record {
      visited = (
        calls,
        turns,
        used,
        told,
        inl (start, starts, subst (λ lines. HasTurn lines false calls turns ended) is turn),
        answered ∙ answers_turn c.args.answers.now c.in-Ok.lines false calls turns ended turn,
        (λ place. place_turn place c.in-Ok.lines false calls turns ended turn),
      );
    }
