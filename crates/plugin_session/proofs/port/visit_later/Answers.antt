use Rattle.std.proofs.Common.{◌≡◌, false, [], ◌∷◌, ◌++◌, length, refl, ap, sym, ◌∙◌, subst, arith}
use Rattle.std.proofs.lemmas.List.{append-nil}
use Rattle.xi_plain.specs.declared.ask.Query.TheVariants.{Notices}
use Rattle.xi_plain.specs.declared.reply.Answer.TheVariants as answer
use Rattle.plugin_session.specs.declared.noted.Noted.TheVariants.{Looked}
use Rattle.plugin_session.specs.Call.{Call}
use Rattle.plugin_session.specs.Visit.{WasGiven}
use Rattle.plugin_session.proofs.DoorLemmas.{Used-append, TellsMore-none, used_longer}
use Rattle.plugin_session.proofs.VisitLemmas.{place_short, place_given, answers_looked}
use Rattle.plugin_session.proofs.port.visit_later.Goals as goal

pub returns-in-Notices : goal.returns-in-Notices
returns-in-Notices g c =
    let d = g.D.Door in
    let law = g.met.D.Door in
    let now = c.look.new.door in
    let len = length (d.journal now) in
    let (calls, turns, used, told, given, answered) = c.give_found.ensures.given in
    let look : Call = record { at = len; noted = Looked (Notices c.args.place.now) (answer.Notices c.in-Notices.lines c.in-Notices.next c.in-Notices.over) } in
    record {
      visited = (
        look ∷ calls,
        turns,
        Used-append d.caller d.journal d.serves d.answers d.later d.ready d.told law.onward law.serves_on law.answers_on
            c.args.door.now now c.give_found.new.door (look ∷ []) calls c.in-Notices.ensures.used used,
        told,
        (len, answer.Notices c.in-Notices.lines c.in-Notices.next c.in-Notices.over, calls, refl, given),
        answered ∙ answers_looked len (Notices c.args.place.now) (answer.Notices c.in-Notices.lines c.in-Notices.next c.in-Notices.over) c.args.answers.now turns calls,
        c.in-Notices.ensures.length ∙ sym (place_given len (c.args.answers.now ++ c.in-Notices.lines) c.in-Notices.over calls turns c.give_found.result given),
      );
      place = omega (
        arith,
        c.in-Notices.ensures.length,
        used_longer d.caller d.journal d.serves d.answers d.later d.ready d.told now c.give_found.new.door calls used,
      );
    }

pub returns-in-Nothing : goal.returns-in-Nothing
returns-in-Nothing g c =
    let d = g.D.Door in
    let law = g.met.D.Door in
    let now = c.look.new.door in
    let len = length (d.journal now) in
    let step = c.give_found-in-Nothing in
    let (calls, turns, used, told, given, answered) = step.ensures.given in
    let look : Call = record { at = len; noted = Looked (Notices c.args.place.now) (answer.Nothing c.in-Nothing.len) } in
    let none : c.args.answers.now ++ c.new.result ≡ c.args.answers.now = ap (λ x. c.args.answers.now ++ x) c.new.ensures ∙ append-nil c.args.answers.now in
    let alone : WasGiven c.args.answers.now false calls turns step.result = subst (λ x. WasGiven x false calls turns step.result) none given in
    record {
      visited = (
        look ∷ calls,
        turns,
        Used-append d.caller d.journal d.serves d.answers d.later d.ready d.told law.onward law.serves_on law.answers_on
            c.args.door.now now step.new.door (look ∷ []) calls c.in-Nothing.ensures.used used,
        told,
        (len, answer.Nothing c.in-Nothing.len, calls, refl, alone),
        answered ∙ answers_looked len (Notices c.args.place.now) (answer.Nothing c.in-Nothing.len) c.args.answers.now turns calls,
        c.in-Nothing.ensures.length ∙ sym (place_given len c.args.answers.now false calls turns step.result alone),
      );
      place = omega (
        arith,
        c.in-Nothing.ensures.length,
        used_longer d.caller d.journal d.serves d.answers d.later d.ready d.told now step.new.door calls used,
      );
    }

pub returns-in-NoMemory : goal.returns-in-NoMemory
returns-in-NoMemory g c =
    let d = g.D.Door in
    let law = g.met.D.Door in
    let now = c.look.new.door in
    let len = length (d.journal now) in
    let (calls, used, short, none, is) = c.end_short.ensures.ended in
    let look : Call = record { at = len; noted = Looked (Notices c.args.place.now) answer.NoMemory } in
    let first = c.in-NoMemory.ensures.used in
    let all = Used-append d.caller d.journal d.serves d.answers d.later d.ready d.told law.onward law.serves_on law.answers_on
    c.args.door.now now c.end_short.new.door (look ∷ []) calls first used in
    record {
      visited = (
        look ∷ calls,
        [],
        all,
        TellsMore-none (g.P.Plugin.told c.args.plugin.now),
        (len, answer.NoMemory, calls, refl, (refl, short)),
        refl,
        sym (place_short c.args.place.now calls c.end_short.result short),
      );
      place = omega (
        arith,
        c.requires.place,
        used_longer d.caller d.journal d.serves d.answers d.later d.ready d.told c.args.door.now c.end_short.new.door (look ∷ calls) all,
      );
    }
