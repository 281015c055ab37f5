use Rattle.std.proofs.Common.{◌≡◌, ◌≢◌, [], ◌++◌, ap, sym, ◌∙◌, subst}
use Rattle.plugin_session.proofs.DoorLemmas.{Used-none, TellsMore-none}
use Rattle.plugin_session.proofs.VisitLemmas.{given_none, given_short, nil_front}
use Rattle.plugin_session.proofs.port.give_found.Goals as goal

pub returns-then-is_empty : goal.returns-then-is_empty
returns-then-is_empty g c =
    let d = g.D.Door in
    let empty : c.in-Ok.lines ≡ [] = c.is_empty.ensures.0 c.if-is_empty.true in
    let none : c.args.answers.now ++ c.args.found ≡ [] =
    sym (c.in-Ok.ensures.joined ∙ ap (λ x. x ++ c.args.found) c.replace.ensures.value) ∙ empty in
    record {
      given = (
        [],
        [],
        Used-none d.caller d.journal d.serves d.answers d.later d.ready d.told c.args.door.now (g.met.D.Door.same c.args.door.now) c.requires.ready,
        TellsMore-none (g.P.Plugin.told c.args.plugin.now),
        given_none (c.args.answers.now ++ c.args.found) c.args.over none,
        c.replace.ensures.after ∙ c.new.ensures ∙ sym (nil_front c.args.answers.now c.args.found none),
      );
    }

pub returns-in-Err : goal.returns-in-Err
returns-in-Err g c =
    let (calls, used, short, none, is) = c.end_short.ensures.ended in
    let back : c.in-Err.left ≡ c.args.answers.now = c.in-Err.ensures.back ∙ c.replace.ensures.value in
    record {
      given = (
        calls,
        [],
        used,
        TellsMore-none (g.P.Plugin.told c.args.plugin.now),
        given_short c.args.answers.now c.args.found c.args.over calls c.end_short.result (subst (λ x. x ≢ []) back c.in-Err.ensures.some) short,
        back,
      );
    }
