use Rattle.plugin_session.specs.Seat.{IsFurther-same}
use Rattle.turn_laws.proofs.room.visit_in_room.Goals as goal

pub returns-clause-next : goal.returns-clause-next
returns-clause-next g c =
    let door = c.args.door.now in
    let (visit, visited, is) = c.turn_once.ensures.visited in
    record {
      visit = visit;
      fits = visited.fits;
      moved = visited.moved;
      ended_is = is;
      served = λ visits port served. visited.carries door visits (IsFurther-same door) port served;
    }
