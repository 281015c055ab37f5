use Rattle.std.proofs.Common.{rules, refl, ap, subst}
use Rattle.core_session.specs.Core.{journal_of, terms_of}
use Rattle.core_session.specs.GrownLaws.{IsGrown-same}
use Rattle.core_session.specs.Object.{state_of}
use Rattle.plugin_session.specs.Alone.{OnlyAdds-same}
use Rattle.turn_laws.specs.Visits.{IsNextVisit}
use Rattle.turn_laws.proofs.VisitLemmas.{next_of}
use Rattle.turn_laws.proofs.alone.visit_alone.Goals as goal

pub returns-clause-next : goal.returns-clause-next
returns-clause-next g c =
    let door = c.new-door.result in
    let then = c.turn_once.new.door.object.now in
    let (visit, visited, is) = c.turn_once.ensures.visited in
    let told = state_of g.K.Sink.held g.K.Sink.faults g.K.Sink.failures g.H.Shelf.files g.H.Shelf.faults door.object.now in
    subst (λ log. IsNextVisit (terms_of c.args.core.now) c.args.caller c.args.port.now c.turn_once.new.self (journal_of c.args.core.now) log c.turn_once.result)
    (search rules)
    (next_of (terms_of c.args.core.now) (terms_of door.object.now) c.args.caller door.caller c.args.port.now c.turn_once.new.self
    (journal_of c.args.core.now) (journal_of door.object.now) (journal_of then) visit c.turn_once.result
    (ap (λ core. terms_of core) c.new-door.ensures.object) c.new-door.ensures.caller (ap (λ core. journal_of core) c.new-door.ensures.object)
    visited.fits visited.moved is
    (λ visits port served. visited.carries door visits (IsGrown-same told, refl, refl, OnlyAdds-same door.caller (journal_of door.object.now)) port served))
