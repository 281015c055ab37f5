use Rattle.std.proofs.Common.{refl, ap, ◌∙◌}
use Rattle.plugin_session.specs.Visit.{Visit}
use Rattle.plugin_session.proofs.PortLemmas.{port_is, carries_of}
use Rattle.plugin_session.proofs.port.Port.turn_once.Goals as goal

pub returns-clause-visited : goal.returns-clause-visited
returns-clause-visited g c =
    let d = g.D.Door in
    let law = g.met.D.Door in
    let port = c.args.self.now in
    let (calls, turns, used, told, is, answered, placed) = c.visit-after.ensures.visited in
    let visit : Visit = record { calls = calls; turns = turns; after = c.visit-after.result } in
    let inside = c.self.inside in
    let view = c.self.view_is in (
      visit,
      record {
        fits = (c.requires.open, is);
        moved = port_is port visit inside.caller inside.place inside.answers c.is_last-self-inside.result
            (ap (λ p. p.caller) view ∙ c.visit-after.ensures.same.0) (ap (λ p. p.place) view ∙ placed) (ap (λ p. p.answers) view ∙ answered)
            c.is_last-self-inside.ensures;
        used = used;
        tells = told;
        carries = carries_of d.caller d.journal d.serves d.answers d.later d.ready d.told law.onward law.serves_on law.answers_on
            port c.args.door.now c.visit-after.new.door visit (c.requires.open, is) used;
      },
      refl,
    )
