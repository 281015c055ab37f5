use Rattle.std.proofs.Common.{◌≡◌, List, ℕ, length, ap, sym, ◌∙◌, refl, subst}
use Rattle.std.specs.Prelude.{IfOk}
use Rattle.span_styles.specs.Layers.{AreOver}
use Rattle.doc_text.specs.InMemory.{TextState, text_in}
use Rattle.doc_view.specs.View.{View}
use Rattle.doc_session.specs.InMemory.{Doc}
use Rattle.doc_session.specs.Inner.{IsUntold}
use Rattle.doc_session.specs.Stands.{DocStandsFor}
use Rattle.doc_session.specs.Step.{saved_document}
use Rattle.doc_session.proofs.doc.Doc.save.Goals as goal

pub document_of-next-requires : goal.document_of-next-requires
document_of-next-requires c =
    let text_is = ap (λ (v : View). v.text) c.in_ok-copy.ensures in
    let layers_are = ap (λ (v : View). v.layers) c.in_ok-copy.ensures in
    let same = c.in_ok-text.ensures.same in
    record {
      shown_is = text_is ∙ c.self.invariant.shown_is ∙ ap text_in (sym same);
      over =
          subst (AreOver (length c.in_ok-copy.field-0.text)) (sym layers_are)
          (subst (λ (t : List ℕ). AreOver (length t) c.self.inside.view.layers) (sym text_is) c.self.invariant.over);
      as_many = ap length layers_are ∙ c.self.invariant.as_many ∙ ap (λ (t : TextState). length t.sessions) (sym same);
    }

pub told-requires : goal.told-requires
told-requires c = record {
  text = (
    ap (λ (d : Doc). d.view.text) c.document_of-next.ensures ∙ ap (λ (v : View). v.text) c.in_ok-copy.ensures ∙ ap (λ (d : Doc). d.view.text) c.self.view_is,
    ap (λ (d : Doc). d.view.layers) c.document_of-next.ensures ∙ ap (λ (v : View). v.layers) c.in_ok-copy.ensures ∙ ap (λ (d : Doc). d.view.layers) c.self.view_is,
  );
}

pub returns-clause-stepped : goal.returns-clause-stepped
returns-clause-stepped c = λ plain stands.
    let next = saved_document plain in
    let was = subst (λ (d : Doc). DocStandsFor d plain) (sym c.self.view_is) stands in
    let untold : IsUntold (record { text = c.in_ok-text.text; view = c.in_ok-copy.field-0 }) plain next = record {
      text = (c.in_ok-text.ensures.stands plain.text was.text).parts;
      view = c.in_ok-copy.ensures ∙ ap (λ (d : Doc). d.view) c.self.view_is ∙ stands.view;
      of_head = stands.of_head;
      regions_are = stands.regions_are;
      screen_stays = refl;
      shown = stands.screen;
    } in
    c.told.ensures.stepped plain next stands (subst (λ (d : Doc). IsUntold d plain next) (sym c.document_of-next.ensures) untold)

pub returns-clause-sessions : goal.returns-clause-sessions
returns-clause-sessions c =
    subst (λ sessions. IfOk c.told.result (λ made. made.0.text.sessions ≡ sessions))
    (ap (λ (d : Doc). d.text.sessions) c.document_of-next.ensures ∙ ap (λ (t : TextState). t.sessions) c.in_ok-text.ensures.same ∙
    ap (λ (d : Doc). d.text.sessions) c.self.view_is) c.told.ensures.sessions
