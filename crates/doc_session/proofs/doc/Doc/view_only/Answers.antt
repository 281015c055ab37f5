use Rattle.std.proofs.Common.{◌≡◌, ℕ, List, length, ap, ap₂, sym, ◌∙◌, subst}
use Rattle.std.specs.Prelude.{IfOk, None}
use Rattle.span_styles.specs.Layers.{AreOver}
use Rattle.doc_text.specs.InMemory.{TextState, text_in}
use Rattle.doc_view.specs.View.{View}
use Rattle.doc_session.specs.declared.event.Body.TheVariants.{Null}
use Rattle.doc_session.specs.InMemory.{Doc}
use Rattle.doc_session.specs.Inner.{IsStepped, IsUntold}
use Rattle.doc_session.specs.Stands.{DocStandsFor}
use Rattle.doc_view.specs.Looking.{viewed}
use Rattle.doc_session.specs.Step.{scroll_if, step_to, viewed_document}
use Rattle.doc_session.proofs.UntoldLemmas.{IsUntold-viewed, layers-viewed, text-viewed}
use Rattle.doc_session.proofs.TickLemmas.{ticks-view}
use Rattle.doc_session.proofs.doc.Doc.view_only.Goals as goal

pub document_of-next-requires : goal.document_of-next-requires
document_of-next-requires g c =
    let text_is = ap (λ (v : View). v.text) c.in_ok-view.ensures.is ∙ text-viewed c.self.inside.view c.args.viewing in
    let layers_are = ap (λ (v : View). v.layers) c.in_ok-view.ensures.is ∙ layers-viewed c.self.inside.view c.args.viewing in
    let same = c.in_ok-text.ensures.same in
    record {
      shown_is = text_is ∙ c.self.invariant.shown_is ∙ ap text_in (sym same);
      over =
          subst (AreOver (length c.in_ok-view.view.text)) (sym layers_are)
          (subst (λ (t : List ℕ). AreOver (length t) c.self.inside.view.layers) (sym text_is) c.self.invariant.over);
      as_many = ap length layers_are ∙ c.self.invariant.as_many ∙ ap (λ (t : TextState). length t.sessions) (sym same);
    }

pub told-requires : goal.told-requires
told-requires g c = record {
  text = (
    ap (λ (d : Doc). d.view.text) c.document_of-next.ensures ∙ ap (λ (v : View). v.text) c.in_ok-view.ensures.is ∙ text-viewed c.self.inside.view c.args.viewing ∙
        ap (λ (d : Doc). d.view.text) c.self.view_is,
    ap (λ (d : Doc). d.view.layers) c.document_of-next.ensures ∙ ap (λ (v : View). v.layers) c.in_ok-view.ensures.is ∙ layers-viewed c.self.inside.view c.args.viewing ∙
        ap (λ (d : Doc). d.view.layers) c.self.view_is,
  );
}

pub returns-clause-stepped : goal.returns-clause-stepped
returns-clause-stepped g c = λ plain stands.
    let now = c.args.self.now in
    let viewing = c.args.viewing in
    let next = viewed_document plain viewing in
    let was = subst (λ (d : Doc). DocStandsFor d plain) (sym c.self.view_is) stands in
    let Untold : Doc → Type 0 = λ d. IsUntold d plain next in
    let view_is = c.in_ok-view.ensures.is ∙ ap (λ (d : Doc). viewed d.view viewing) c.self.view_is in
    let untold = IsUntold-viewed now (record { text = c.in_ok-text.text; view = c.in_ok-view.view }) plain viewing stands
    (c.in_ok-text.ensures.stands plain.text was.text).parts view_is in
    subst (λ step. IfOk c.told.result (IsStepped step))
    (ap₂ (λ lines asks. step_to lines plain next Null (scroll_if asks plain next) None) c.viewed_lines-request.ensures c.scrolls_at-scrolling.ensures)
    (c.told.ensures.stepped plain next stands (subst Untold (sym c.document_of-next.ensures) untold))

pub returns-clause-sessions : goal.returns-clause-sessions
returns-clause-sessions g c =
    subst (λ sessions. IfOk c.told.result (λ made. made.0.text.sessions ≡ sessions))
    (ap (λ (d : Doc). d.text.sessions) c.document_of-next.ensures ∙ ap (λ (t : TextState). t.sessions) c.in_ok-text.ensures.same ∙
    ap (λ (d : Doc). d.text.sessions) c.self.view_is) c.told.ensures.sessions

pub returns-in_err-view-clause-steps : goal.returns-in_err-view-clause-steps
returns-in_err-view-clause-steps g c = λ plain stands.
    ticks-view _ _ _ _ c.args.viewing (ap (λ (d : Doc). d.view) c.self.view_is ∙ stands.view) c.in_err-view.ensures.steps

pub returns-in_err-text-clause-steps : goal.returns-in_err-text-clause-steps
returns-in_err-text-clause-steps g c = λ plain stands.
    ticks-view _ _ _ _ c.args.viewing (ap (λ (d : Doc). d.view) c.self.view_is ∙ stands.view) c.in_ok-view.ensures.steps

pub returns-clause-steps : goal.returns-clause-steps
returns-clause-steps g c = λ plain stands.
    ticks-view _ _ _ _ c.args.viewing (ap (λ (d : Doc). d.view) c.self.view_is ∙ stands.view) c.in_ok-view.ensures.steps
