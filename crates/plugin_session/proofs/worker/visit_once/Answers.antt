use Rattle.std.proofs.Common.{ap, sym, subst}
use Rattle.plugin_session.specs.Seat.{IsFurther-same}
use Rattle.plugin_session.specs.Visiting.{Visits}
use Rattle.plugin_session.proofs.worker.visit_once.Goals as goal

pub returns-clause-visited : goal.returns-clause-visited
returns-clause-visited g c =
    let door = c.args.door.now in
    let first = door.door.first in
    let told = g.P.Plugin.told in
    let (visit, visited, is) = c.turn_once-after.ensures.visited in
    subst (λ p. Visits (g.O.Object.serves first) (g.O.Object.answers first) c.args.port.now c.turn_once-after.new.self door.door.pass p (told c.args.plugin.now) (told c.turn_once-after.new.plugin) c.turn_once-after.result)
    (sym (ap (λ d. d.pass) c.wait_after.ensures))
    (record {
      same = visited.used.grown.same;
      seen = visited.used.grown.seen;
      visit = visit;
      moved = visited.moved;
      place = c.turn_once-after.ensures.place;
      tells = visited.tells;
      ends = is;
      served = λ visits port served. visited.carries door visits (IsFurther-same door.door) port served;
    })
