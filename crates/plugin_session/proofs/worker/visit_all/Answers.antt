use Rattle.std.proofs.Common.{refl, sym, ◌∙◌, subst}
use Rattle.plugin_session.specs.Visiting.{Visits}
use Rattle.plugin_session.specs.Worker.{HasWorked}
use Rattle.plugin_session.proofs.WorkerLemmas.{SoFar-start, SoFar-on, SoFar-ends}
use Rattle.plugin_session.proofs.worker.visit_all.Goals as goal

pub loop-init : goal.loop-init
loop-init g c =
    let door = c.args.door.now.door in
    record {
      object = refl;
      ready = c.requires.ready;
      so_far = SoFar-start (g.O.Object.serves door.first) (g.O.Object.answers door.first) c.args.port.now door.pass (g.P.Plugin.told c.args.plugin.now)
          c.requires.port c.requires.fresh;
    }

pub loop-preserved : goal.loop-preserved
loop-preserved g c =
    let door = c.args.door.now.door in
    let told = g.P.Plugin.told in
    let inv = c.loop.invariant in
    let now = c.loop.door.door in
    let step = c.visit_once-after in
    let visits = subst (λ o. Visits (g.O.Object.serves o) (g.O.Object.answers o) c.loop.port step.new.port now.pass step.new.door.door.pass (told c.loop.plugin) (told step.new.plugin) step.result)
    inv.object step.ensures.visited in
    record {
      object = step.ensures.object ∙ inv.object;
      ready = step.ensures.ready;
      so_far = SoFar-on (g.O.Object.serves door.first) (g.O.Object.answers door.first) c.loop.port step.new.port door.pass now.pass step.new.door.door.pass
          (told c.args.plugin.now) (told c.loop.plugin) (told step.new.plugin) step.result inv.so_far visits (sym c.is_last.ensures ∙ c.if-is_last.false);
    }

pub returns-then-is_last : goal.returns-then-is_last
returns-then-is_last g c =
    let door = c.args.door.now.door in
    let told = g.P.Plugin.told in
    let inv = c.loop.invariant in
    let now = c.loop.door.door in
    let step = c.visit_once-after in
    let visits = subst (λ o. Visits (g.O.Object.serves o) (g.O.Object.answers o) c.loop.port step.new.port now.pass step.new.door.door.pass (told c.loop.plugin) (told step.new.plugin) step.result)
    inv.object step.ensures.visited in
    subst (HasWorked (g.O.Object.serves door.first) (g.O.Object.answers door.first) door.pass step.new.door.door.pass (told c.args.plugin.now) (told step.new.plugin))
    (sym c.is_over.ensures)
    (SoFar-ends (g.O.Object.serves door.first) (g.O.Object.answers door.first) c.loop.port step.new.port door.pass now.pass step.new.door.door.pass
    (told c.args.plugin.now) (told c.loop.plugin) (told step.new.plugin) step.result inv.so_far visits (sym c.is_last.ensures ∙ c.if-is_last.true))
