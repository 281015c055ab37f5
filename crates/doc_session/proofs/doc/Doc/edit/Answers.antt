use Rattle.std.proofs.Common.{◌≡◌, ◌+◌, length, None, refl, ap, ap₂, sym, ◌∙◌, subst, arith}
use Rattle.std.specs.Prelude.{IfErr}
use Rattle.std.proofs.lemmas.Result.{err_from_is_err_and}
use Rattle.plain_edits.specs.History.{head}
use Rattle.plain_edits.specs.HistorySteps.{edits}
use Rattle.rev_engine.specs.Given.{meant}
use Rattle.edit_groups.specs.Grouping.{group_by, named_group}
use Rattle.doc_text.specs.Asking.{asked_refusal, plugin_edit}
use Rattle.doc_text.specs.Fault.{DocRefuses}
use Rattle.doc_text.specs.Refusal.{edit_refused}
use Rattle.doc_text.specs.Revised.{IsRevisionOf}
use Rattle.doc_text.specs.Revisions.{given_text}
use Rattle.doc_view.specs.declared.moved.Goals.TheVariants.{Kept}
use Rattle.doc_session.specs.declared.event.Body.TheVariants.{Edited}
use Rattle.doc_session.specs.InMemory.{Doc}
use Rattle.doc_session.specs.Inner.{IsStepped}
use Rattle.doc_session.specs.Stands.{DocStandsFor}
use Rattle.doc_session.specs.Step.{EventStep, regions_by, revised_document, revision_step}
use Rattle.doc_session.proofs.SomeLemmas.{regions_by-some}
use Rattle.doc_session.proofs.StepLemmas.{AreWithin-more, regions-moved}
use Rattle.doc_session.proofs.doc.Doc.edit.Goals as goal

pub moved-requires-clause-base : goal.moved-requires-clause-base
moved-requires-clause-base g c = c.in_ok-revised.ensures.made.changes.base ∙ ap length (sym c.self.invariant.shown_is)

pub moved-requires-clause-well_formed : goal.moved-requires-clause-well_formed
moved-requires-clause-well_formed g c = c.in_ok-revised.ensures.made.changes.well_formed

pub moved-requires-clause-bound : goal.moved-requires-clause-bound
moved-requires-clause-bound g c = omega (arith, c.in_ok-revised.ensures.made.within, c.in_ok-revised.ensures.made.counted)

pub revise-requires-clause-sound : goal.revise-requires-clause-sound
revise-requires-clause-sound g c = c.in_ok-sel.ensures.sound

pub revise-requires-clause-inside : goal.revise-requires-clause-inside
revise-requires-clause-inside g c = AreWithin-more _ _ c.in_ok-sel.sel.regions c.in_ok-revised.ensures.made.within c.in_ok-sel.ensures.inside

pub revise-requires-clause-made : goal.revise-requires-clause-made
revise-requires-clause-made g c = subst (λ (d : Doc). IsRevisionOf d.text c.in_ok-revised.revised) c.self.view_is c.in_ok-revised.ensures.made

pub returns-in_err-revised-clause-refused : goal.returns-in_err-revised-clause-refused
returns-in_err-revised-clause-refused g c = λ plain stands.
    let was = subst (λ (d : Doc). DocStandsFor d plain) (sym c.self.view_is) stands in
    let refusal = edit_refused (asked_refusal plain.text (plugin_edit plain.text c.args.caller c.args.edit None)) in
    let same = err_from_is_err_and c.from_residual.result c.from_residual.ensures.1 in
    subst (λ r. IfErr r (DocRefuses refusal)) (sym same.1) (subst (DocRefuses refusal) (sym same.2) (c.in_err-revised.ensures.refused plain.text was.text))

pub returns-in_err-sel-clause-refused : goal.returns-in_err-sel-clause-refused
returns-in_err-sel-clause-refused g c = λ plain stands.
    let refusal = edit_refused (asked_refusal plain.text (plugin_edit plain.text c.args.caller c.args.edit None)) in
    let lack = err_from_is_err_and c.from_residual-in_err-sel.result c.from_residual-in_err-sel.ensures.1 in
    subst (λ r. IfErr r (DocRefuses refusal)) (sym lack.1) (subst (DocRefuses refusal) (sym lack.2) (λ other. absurd (other refl)))

pub returns-clause-stepped : goal.returns-clause-stepped
returns-clause-stepped g c = λ plain stands.
    let edit = c.args.edit in
    let caller = c.args.caller in
    let sel = c.in_ok-sel.sel in
    let was = subst (λ (d : Doc). DocStandsFor d plain) (sym c.self.view_is) stands in
    let joined = named_group plain.text.history c.args.named in
    let asked = plugin_edit plain.text caller edit joined in
    let next = given_text plain.text caller edit c.args.named in
    let is = c.in_ok-revised.ensures.revised plain.text was.text in
    let numbered : c.head-rev.result + 1 ≡ head plain.text.history + 1 = ap (λ n. n + 1) (c.head-rev.ensures.head plain stands) in
    let regions_is : sel.regions ≡ regions_by plain next.history edit.after_cursor plain.view.regions =
    regions-moved _ plain (edits (meant plain.text.history asked)) c.in_ok-revised.revised.units edit.after_cursor Kept sel.regions was is.changes c.in_ok-sel.ensures in
    subst (λ (step : EventStep). IsStepped step c.in_ok-revise.field-0)
    (ap₂ (λ n g. revision_step plain (revised_document plain next sel.regions) caller (Edited n g) None) numbered (c.in_ok-revised.ensures.group plain.text was.text) ∙
    ap (λ regions. revision_step plain (revised_document plain next regions) caller (Edited (head plain.text.history + 1) (group_by plain.text.groups joined)) None)
    regions_is)
    (c.in_ok-revise.ensures.stepped plain next caller stands is
    (λ none. regions_by-some plain next.history edit.after_cursor plain.view.regions stands.regions_are.some (sym regions_is ∙ none)))

pub returns-clause-accepted : goal.returns-clause-accepted
returns-clause-accepted g c = λ plain stands.
    let was = subst (λ (d : Doc). DocStandsFor d plain) (sym c.self.view_is) stands in
    c.in_ok-revised.ensures.accepted plain.text was.text

pub returns-in_err-revise-clause-steps : goal.returns-in_err-revise-clause-steps
returns-in_err-revise-clause-steps g c = λ plain stands.
    let was = subst (λ (d : Doc). DocStandsFor d plain) (sym c.self.view_is) stands in
    c.in_err-revise.ensures.steps plain (given_text plain.text c.args.caller c.args.edit c.args.named) c.args.caller stands
    (c.in_ok-revised.ensures.revised plain.text was.text)

pub returns-clause-steps : goal.returns-clause-steps
returns-clause-steps g c = λ plain stands.
    let was = subst (λ (d : Doc). DocStandsFor d plain) (sym c.self.view_is) stands in
    c.in_ok-revise.ensures.steps plain (given_text plain.text c.args.caller c.args.edit c.args.named) c.args.caller stands
    (c.in_ok-revised.ensures.revised plain.text was.text)
