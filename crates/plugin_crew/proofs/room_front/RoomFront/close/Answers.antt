use Rattle.std.proofs.Common.{refl, subst}
use Rattle.plugin_crew.specs.Place.{AreVisitedIf}
use Rattle.plugin_crew.proofs.PlaceLemmas.{round_given, take_on}
use Rattle.plugin_crew.proofs.room_front.RoomFront.close.Goals as goal

pub enter_front-took-requires : goal.enter_front-took-requires
enter_front-took-requires g c =
    let (staffed, may) = c.requires.ready in record { room = staffed.here; front = staffed.caller; fits = may.close; faults = may.faults }

pub returns-clause-same : goal.returns-clause-same
returns-clause-same g c =
    let o = g.O.Object in
    (refl, round_given o.serves o.answers c.adds_entry.result c.args.self.now.posts.items c.round_where.new.posts.items c.round_where.ensures)

pub returns-clause-round : goal.returns-clause-round
returns-clause-round g c =
    let o = g.O.Object in
    let f = c.args.self.now in
    subst (λ goes. AreVisitedIf o.serves o.answers goes f.posts.items c.round_where.new.posts.items) c.adds_entry.ensures c.round_where.ensures

pub returns-clause-ready : goal.returns-clause-ready
returns-clause-ready g c =
    let o = g.O.Object in
    let f = c.args.self.now in
    let room = f.room.now.table.shared in
    take_on o.serves o.answers o.fits room.table_id room.key.first.value f.pass c.enter_front-took.new.pass c.adds_entry.result f.posts.items
    c.round_where.new.posts.items c.enter_front-took.ensures.same c.round_where.ensures c.requires.ready
