use Rattle.std.proofs.Common.{◌≡◌, ◌<◌, IfOk, ap, sym, ◌∙◌, subst, arith}
use Rattle.std.specs.Prelude.{IfSome}
use Rattle.std.specs.Arc.{arc_value}
use Rattle.number_set.proofs.ForCallers.{no}
use Rattle.plain_edits.specs.Collection.{collection_of}
use Rattle.plain_edits.specs.History.{head}
use Rattle.edit_groups.proofs.ForCallers.{least-within}
use Rattle.rev_collect.specs.Choice.{collection_said}
use Rattle.rev_engine.specs.Asked.{IsCollectionTaken}
use Rattle.rev_engine.specs.Engine.{StandsFor}
use Rattle.rev_engine.specs.State.{State}
use Rattle.doc_text.specs.Collecting.{least_acknowledged}
use Rattle.doc_text.specs.InMemory.{TextState}
use Rattle.doc_text.specs.Inner.{MayCollectIn}
use Rattle.doc_text.specs.Stands.{IsTextOf}
use Rattle.doc_text.proofs.CollectLemmas.{MayCollectIn-found, found-least, nothing-begun, nothing-below, nothing-retired}
use Rattle.doc_text.proofs.text.TextState.collectable.Goals.{then-not-has_retired-via-then-not-has_retired, then-not-has_retired-via-else-not-has_retired+then-least-floor}
use Rattle.doc_text.proofs.text.TextState.collectable.Goals as goal

pub returns-then-not-has_retired-clause-found : goal.returns-then-not-has_retired-clause-found
returns-then-not-has_retired-clause-found c = λ plain stands.
    let doc = c.self.inside in
    let was = subst (λ (d : TextState). IsTextOf d plain) (sym c.self.view_is) stands in
    let head_is = c.head.ensures.revisions ∙ ap (λ (e : State). head e.revisions) c.deref-engine.ensures in
    let least_is : c.least-least.result ≡ least_acknowledged (head (arc_value doc.engine).revisions) doc.sessions =
    c.least-least.ensures ∙ ap (λ n. least_acknowledged n doc.sessions) head_is in
    elim c.then-not-has_retired.branch [
      | then-not-has_retired-via-then-not-has_retired w ↦
          nothing-retired _ plain was (λ some. no c.has_retired.result (c.has_retired.ensures.1 some) w.if-not-has_retired.true)
      | then-not-has_retired-via-else-not-has_retired+then-least-floor w ↦
          nothing-below _ plain was
          (subst (λ n. n < (arc_value doc.engine).revisions.floor) least_is
          (subst (λ n. c.least-least.result < n) (w.floor.ensures.revisions ∙ ap (λ (e : State). e.revisions.floor) c.deref-engine.ensures) w.if-least-floor.true))
    ]

pub returns-then-all_begin_after-clause-found : goal.returns-then-all_begin_after-clause-found
returns-then-all_begin_after-clause-found c = λ plain stands.
    let doc = c.self.inside in
    let was = subst (λ (d : TextState). IsTextOf d plain) (sym c.self.view_is) stands in
    let head_is = c.head.ensures.revisions ∙ ap (λ (e : State). head e.revisions) c.deref-engine.ensures in
    let least_is : c.least-least.result ≡ least_acknowledged (head (arc_value doc.engine).revisions) doc.sessions =
    c.least-least.ensures ∙ ap (λ n. least_acknowledged n doc.sessions) head_is in
    nothing-begun _ plain was c.least-least.result least_is (c.all_begin_after.ensures plain stands c.if-all_begin_after.true)

pub collectable-requires-clause-known : goal.collectable-requires-clause-known
collectable-requires-clause-known c =
    omega (arith, c.least-least.ensures, least-within c.head.result c.self.inside.sessions, c.head.ensures.revisions)

pub returns-clause-found : goal.returns-clause-found
returns-clause-found c = λ plain stands.
    let doc = c.self.inside in
    let was = subst (λ (d : TextState). IsTextOf d plain) (sym c.self.view_is) stands in
    let head_is = c.head.ensures.revisions ∙ ap (λ (e : State). head e.revisions) c.deref-engine.ensures in
    let least_is : c.least-least.result ≡ least_acknowledged (head (arc_value doc.engine).revisions) doc.sessions =
    c.least-least.ensures ∙ ap (λ n. least_acknowledged n doc.sessions) head_is in
    let same = ap (λ groups. collection_of plain.history groups c.least-least.result) c.in_ok-retired.ensures ∙ found-least _ plain was c.least-least.result least_is in
    subst (λ found. IfOk c.collectable.result (λ said. collection_said said ≡ found)) same (c.collectable.ensures.collected plain.history (subst (λ (e : State). StandsFor e plain.history) (sym c.deref-engine.ensures) was.state.stands))

pub returns-clause-may : goal.returns-clause-may
returns-clause-may c =
    subst (λ (d : TextState). IfOk c.collectable.result (λ found. IfSome found (λ some. MayCollectIn d some.0 some.1.keys))) c.self.view_is
    (MayCollectIn-found _ c.in_ok-retired.retired.keys c.least-least.result c.collectable.result c.in_ok-retired.ensures
    (subst (λ (e : State). IfOk c.collectable.result (λ found. collection_said found ≡ collection_of e.revisions c.in_ok-retired.retired.keys c.least-least.result))
    c.deref-engine.ensures c.collectable.ensures.revisions)
    (subst (λ (e : State). IfOk c.collectable.result (λ found. IfSome found (λ some. IsCollectionTaken e.revisions some.0 some.1.keys))) c.deref-engine.ensures
    c.collectable.ensures.may))
