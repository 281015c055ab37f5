use Rattle.std.proofs.Common.{sym, subst}
use Rattle.std.specs.Prelude.{replicate, length, []}
use Rattle.plugin_crew.specs.Alone.{IsRunning}
use Rattle.plugin_crew.proofs.AloneLemmas.{crew_new, begins, begins_empty}
use Rattle.plugin_crew.proofs.alone_front.AloneFront.start.Goals as goal

pub round-requires : goal.round-requires
round-requires g c =
    let o = g.O.Object in
    let law = g.met.O.Object in
    let members = c.args.crew.members.items in
    let (plugins, new) = c.requires.new in
    record {
      serving = (
        c.args.object,
        replicate (length members) [],
        crew_new o.journal o.serves o.answers o.grown g.P.Plugin.told law.onward law.serves_on law.answers_on c.args.object plugins members (law.same c.args.object) c.requires.empty new,
      );
      ready = c.requires.may.plugins;
    }

pub returns-clause-running : goal.returns-clause-running
returns-clause-running g c =
    let o = g.O.Object in
    let law = g.met.O.Object in
    let (plugins, new) = c.requires.new in
    subst (λ f. IsRunning o.journal o.serves o.answers o.grown g.P.Plugin.told o.fits f c.round.new.object c.round.new.self.members.items) (sym c.of-first.ensures)
    (begins o.journal o.serves o.answers o.grown g.P.Plugin.told law.onward law.serves_on law.answers_on o.fits c.args.object c.round.new.object plugins
    c.args.crew.members.items c.round.new.self.members.items c.requires.may (law.same c.args.object) c.requires.empty new c.round.ensures.length c.round.ensures.round)

pub returns-clause-none : goal.returns-clause-none
returns-clause-none g c =
    let o = g.O.Object in
    let law = g.met.O.Object in
    let (plugins, new) = c.requires.new in
    begins_empty o.journal o.serves o.answers o.grown g.P.Plugin.told law.onward law.serves_on law.answers_on o.fits c.args.object c.round.new.object plugins
    c.args.crew.members.items c.round.new.self.members.items (law.same c.args.object) c.requires.empty new c.round.ensures.round
