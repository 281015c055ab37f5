use Rattle.std.proofs.Common.{rules, refl, ap, sym, ◌∙◌, subst}
use Rattle.plugin_crew.specs.declared.member.Member.{Member}
use Rattle.plugin_crew.specs.Standing.{standing_after}
use Rattle.plugin_crew.specs.Alone.{HasVisit}
use Rattle.plugin_crew.proofs.SessionLemmas.{port_caller}
use Rattle.plugin_crew.proofs.AloneLemmas.{visit_had}
use Rattle.plugin_crew.proofs.member.visit_going.Goals as goal

pub turn_once-after-requires-clause-caller : goal.turn_once-after-requires-clause-caller
turn_once-after-requires-clause-caller g c =
    let (first, visits, both) = c.requires.serving in
    c.new-door.ensures.caller ∙ sym (ap (λ p. p.caller) both.1.session.moved ∙ port_caller c.args.member.now.caller visits)

pub returns-clause-visited : goal.returns-clause-visited
returns-clause-visited g c =
    let o = g.O.Object in
    let law = g.met.O.Object in
    let door = c.new-door.result in
    let next : Member g.row.P.Denot =
    record {
      caller = c.args.member.now.caller;
      port = c.turn_once-after.new.self;
      plugin = c.turn_once-after.new.plugin;
      began = c.args.member.now.began;
      standing = c.standing_after-member.result;
    } in
    let (visit, visited, is) = c.turn_once-after.ensures.visited in
    subst (λ object. HasVisit o.journal o.serves o.answers o.grown g.P.Plugin.told c.args.member.now.caller c.args.object.now c.args.member.now next object) (search rules)
    (visit_had o.journal o.serves o.answers o.grown g.P.Plugin.told law.onward law.serves_on law.answers_on
    c.args.member.now.caller door.caller c.args.object.now door.object.now c.turn_once-after.new.door.object.now c.args.member.now next
    visit c.new-door.ensures.caller c.new-door.ensures.object c.requires.going refl refl visited.fits visited.moved c.turn_once-after.ensures.place
    (c.standing_after-member.ensures ∙ ap standing_after (sym is)) visited.tells visited.used.grown.0 visited.used.grown.3 visited.used.went)
