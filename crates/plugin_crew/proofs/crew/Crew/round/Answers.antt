use Rattle.std.proofs.Common.{◌≡◌, ◌≤◌, ◌+◌, length, take, refl, ◌∙◌, arith}
use Rattle.std.proofs.lemmas.List.{length-take-le}
use Rattle.plugin_session.proofs.ForCallers.{ready_on}
use Rattle.plugin_crew.proofs.AloneLemmas.{part_start, part_on, part_end, part_front}
use Rattle.plugin_crew.proofs.MemberLemmas.{begun_on}
use Rattle.plugin_crew.proofs.crew.Crew.round.Goals as goal

pub loop-at-init : goal.loop-at-init
loop-at-init g c =
    let o = g.O.Object in
    let law = g.met.O.Object in
    record {
      long = refl;
      begun = refl;
      grown = law.same c.args.object.now;
      part = part_start o.journal o.serves o.answers o.grown g.P.Plugin.told law.onward law.serves_on law.answers_on c.args.object.now c.args.self.now.members.items;
    }

pub visit_at-requires-clause-serving : goal.visit_at-requires-clause-serving
visit_at-requires-clause-serving g c member is =
    let o = g.O.Object in
    let law = g.met.O.Object in
    let (first, olds, are) = c.requires.serving in
    let front = part_front o.journal o.serves o.answers o.grown g.P.Plugin.told law.onward law.serves_on law.answers_on
    c.loop-at.at c.args.object.now c.loop-at.object c.args.self.now.members.items c.loop-at.self.members.items member first olds are c.loop-at.invariant.part is in
    (first, front.1.0, front.1.1)

pub visit_at-requires-clause-ready : goal.visit_at-requires-clause-ready
visit_at-requires-clause-ready g c member is =
    let o = g.O.Object in
    let law = g.met.O.Object in
    let inv = c.loop-at.invariant in
    let (first, olds, are) = c.requires.serving in
    let who : member.caller ≡ c.loop-at.at + 1 = (part_front o.journal o.serves o.answers o.grown g.P.Plugin.told law.onward law.serves_on law.answers_on
    c.loop-at.at c.args.object.now c.loop-at.object c.args.self.now.members.items c.loop-at.self.members.items member first olds are inv.part is).0 in
    ready_on o.fits member.caller c.args.object.now c.loop-at.object (λ ask fits. law.fits_on c.args.object.now c.loop-at.object member.caller ask inv.grown fits)
    (c.requires.ready member.caller (omega (arith, who)) (omega (arith, who, inv.long, c.args.self.now.members.ok.0, c.loop-at.self.members.ok.0)))

pub loop-at-preserved : goal.loop-at-preserved
loop-at-preserved g c =
    let o = g.O.Object in
    let law = g.met.O.Object in
    let inv = c.loop-at.invariant in
    let step = c.visit_at.ensures in
    let nows = c.loop-at.self.members.items in
    let nexts = c.visit_at.new.members.items in
    let (member, next, old_is, new_is, same, began, adds, had) = step.visited in
    let inside : c.loop-at.at ≤ length nows = omega (arith, inv.long, c.args.self.now.members.ok.0) in
    let long : length (take c.loop-at.at nows) ≡ c.loop-at.at = length-take-le c.loop-at.at nows inside in
    record {
      long = omega (arith, step.length, inv.long, c.visit_at.new.members.ok.0, c.loop-at.self.members.ok.0);
      begun = begun_on c.loop-at.at nows nexts member next began old_is new_is step.kept ∙ inv.begun;
      grown = law.onward c.args.object.now c.loop-at.object c.visit_at.new.object inv.grown step.grown;
      part = part_on o.journal o.serves o.answers o.grown g.P.Plugin.told law.onward law.serves_on law.answers_on
          c.loop-at.at c.args.object.now c.loop-at.object c.visit_at.new.object c.args.self.now.members.items nows nexts member next long old_is new_is step.kept step.rest adds had inv.part;
    }

pub returns : goal.returns
returns g c =
    let o = g.O.Object in
    let law = g.met.O.Object in
    let inv = c.loop-at.invariant in
    let all : length c.loop-at.self.members.items ≤ c.loop-at.at = omega (arith, inv.long, c.args.self.now.members.ok.0) in
    record {
      length = inv.long;
      begun = inv.begun;
      grown = inv.grown;
      round = part_end o.journal o.serves o.answers o.grown g.P.Plugin.told law.onward law.serves_on law.answers_on
          c.loop-at.at c.args.object.now c.loop-at.object c.args.self.now.members.items c.loop-at.self.members.items all inv.part;
    }
