use Rattle.std.proofs.Common.{false, true, length, map, ap, sym, ◌∙◌, subst, arith}
use Rattle.std.specs.Prelude.{IfOk}
use Rattle.plain_edits.specs.HistorySteps.{undoes}
use Rattle.edit_ops.specs.Regions.{without_goal}
use Rattle.doc_text.specs.InMemory.{text_in}
use Rattle.doc_text.specs.Revisions.{undone_text}
use Rattle.doc_view.specs.declared.moved.Goals.TheVariants.{Cleared}
use Rattle.doc_session.specs.declared.event.Body.TheVariants.{Null}
use Rattle.doc_session.specs.InMemory.{Doc}
use Rattle.doc_session.specs.Inner.{IsStepped}
use Rattle.doc_session.specs.Stands.{DocStandsFor}
use Rattle.doc_session.specs.Step.{revised_document, revision_step, scroll_if}
use Rattle.doc_session.proofs.SomeLemmas.{map-some, regions_by-some}
use Rattle.doc_session.proofs.StepLemmas.{AreWithin-more, regions-moved}
use Rattle.doc_session.proofs.doc.Doc.turn_group.Goals as goal

pub moved-requires-clause-base : goal.moved-requires-clause-base
moved-requires-clause-base g c = c.requires.changes.base ∙ ap length (ap (λ (d : Doc). text_in d.text) (sym c.self.view_is) ∙ sym c.self.invariant.shown_is)

pub moved-requires-clause-well_formed : goal.moved-requires-clause-well_formed
moved-requires-clause-well_formed g c = c.requires.changes.well_formed

pub moved-requires-clause-bound : goal.moved-requires-clause-bound
moved-requires-clause-bound g c = omega (arith, c.requires.within, c.requires.counted)

pub revise-requires-clause-sound : goal.revise-requires-clause-sound
revise-requires-clause-sound g c = c.in_ok-sel.ensures.sound

pub revise-requires-clause-inside : goal.revise-requires-clause-inside
revise-requires-clause-inside g c = AreWithin-more _ _ c.in_ok-sel.sel.regions c.requires.within c.in_ok-sel.ensures.inside

pub returns-clause-stepped : goal.returns-clause-stepped
returns-clause-stepped g c = λ plain group groups stands is.
    let was = subst (λ (d : Doc). DocStandsFor d plain) (sym c.self.view_is) stands in
    let next = undone_text plain.text groups in
    let regions_is =
    regions-moved _ plain (undoes groups.undone) c.args.revised.units false Cleared c.in_ok-sel.sel.regions was is.changes c.in_ok-sel.ensures in
    subst (λ step. IfOk c.revise.result (IsStepped step))
    (ap (λ regions. revision_step plain (revised_document plain next regions) 0 Null (scroll_if true plain (revised_document plain next regions))) regions_is)
    (c.revise.ensures.stepped plain next 0 stands is
    (λ none. regions_by-some plain next.history false (map without_goal plain.view.regions) (map-some without_goal plain.view.regions stands.regions_are.some)
    (sym regions_is ∙ none)))

pub returns-clause-steps : goal.returns-clause-steps
returns-clause-steps g c = λ plain group groups stands is. c.revise.ensures.steps plain (undone_text plain.text groups) 0 stands is
