use Rattle.std.proofs.Common.{◌≡◌, ℕ, List, length, ap, ap₂, sym, ◌∙◌, subst}
use Rattle.std.specs.Prelude.{IfOk}
use Rattle.edit_ops.specs.Commands.{Effect}
use Rattle.selection_core.specs.Mapped.{AreWithin}
use Rattle.selection_core.specs.Selection.{IsSelection}
use Rattle.edit_groups.specs.Typing.{kind_of}
use Rattle.span_styles.specs.Layers.{AreOver}
use Rattle.doc_text.specs.InMemory.{TextState, text_in}
use Rattle.doc_text.specs.Revisions.{going_on}
use Rattle.doc_text.specs.Stands.{IsTextOf}
use Rattle.doc_view.specs.View.{View, pieces_in}
use Rattle.doc_session.specs.InMemory.{Doc}
use Rattle.doc_session.specs.Inner.{IsStepped, IsUntold}
use Rattle.doc_session.specs.Step.{effect_on, scroll_if, selected_document, still_step}
use Rattle.doc_session.specs.Stands.{AreRegionsOf, DocStandsFor}
use Rattle.doc_session.proofs.SomeLemmas.{effect-some}
use Rattle.doc_session.proofs.StepLemmas.{effect-is}
use Rattle.doc_session.proofs.UntoldLemmas.{IsUntold-still}
use Rattle.doc_session.proofs.doc.Doc.no_edit.Goals as goal

pub with_regions-requires-clause-inside : goal.with_regions-requires-clause-inside
with_regions-requires-clause-inside c = subst (λ (d : Doc). AreWithin (length d.view.text) c.args.sel.regions) (sym c.self.view_is) c.requires.inside

pub document_of-next-requires : goal.document_of-next-requires
document_of-next-requires c =
    let text_is = ap (λ (v : View). v.text) c.in_ok-view.ensures in
    let layers_are = ap (λ (v : View). v.layers) c.in_ok-view.ensures in
    let same = c.in_ok-text.ensures.same in
    record {
      shown_is = text_is ∙ c.self.invariant.shown_is ∙ ap text_in (sym same);
      over =
          subst (AreOver (length c.in_ok-view.view.text)) (sym layers_are)
          (subst (λ (t : List ℕ). AreOver (length t) c.self.inside.view.layers) (sym text_is) c.self.invariant.over);
      as_many = ap length layers_are ∙ c.self.invariant.as_many ∙ ap (λ (t : TextState). length t.sessions) (sym same);
    }

pub told-requires : goal.told-requires
told-requires c = record {
  text = (
    ap (λ (d : Doc). d.view.text) c.document_of-next.ensures ∙ ap (λ (v : View). v.text) c.in_ok-view.ensures ∙ ap (λ (d : Doc). d.view.text) c.self.view_is,
    ap (λ (d : Doc). d.view.layers) c.document_of-next.ensures ∙ ap (λ (v : View). v.layers) c.in_ok-view.ensures ∙ ap (λ (d : Doc). d.view.layers) c.self.view_is,
  );
}

pub returns-clause-stepped : goal.returns-clause-stepped
returns-clause-stepped c = λ plain stands.
    let now = c.args.self.now in
    let act = c.args.act.now in
    let kind = kind_of act in
    let effect = effect_on plain act in
    let next = selected_document plain kind effect.regions in
    let regions_is = c.requires.regions ∙ ap (λ (e : Effect). e.regions) (effect-is now plain act stands) in
    let was = subst (λ (d : Doc). DocStandsFor d plain) (sym c.self.view_is) stands in
    let view_is = c.in_ok-view.ensures ∙ ap (λ (d : Doc). record d.view { regions = c.args.sel.regions }) c.self.view_is in
    let text = subst (λ k. IsTextOf c.in_ok-text.text (going_on plain.text k)) c.kind_of.ensures (c.in_ok-text.ensures.stands plain.text was.text).parts in
    let are : AreRegionsOf plain.view.text effect.regions = record {
      some = effect-some plain.view.config plain.view.text (pieces_in plain.view) plain.view.regions stands.regions_are.some act;
      sound = subst IsSelection regions_is c.requires.sound;
      inside =
          subst (AreWithin (length plain.view.text)) regions_is
          (subst (λ (v : View). AreWithin (length v.text) c.args.sel.regions) stands.view c.requires.inside);
    } in
    subst (λ step. IfOk c.told.result (IsStepped step))
    (ap₂ (λ body asks. still_step plain next body (scroll_if asks plain next)) (c.in_ok-body.ensures plain stands) c.scrolls.ensures)
    (c.told.ensures.stepped plain next stands
    (subst (λ (d : Doc). IsUntold d plain next) (sym c.document_of-next.ensures)
    (IsUntold-still now (record { text = c.in_ok-text.text; view = c.in_ok-view.view }) plain kind c.args.sel.regions effect.regions stands text view_is regions_is are)))

pub returns-clause-sessions : goal.returns-clause-sessions
returns-clause-sessions c =
    subst (λ sessions. IfOk c.told.result (λ made. made.0.text.sessions ≡ sessions))
    (ap (λ (d : Doc). d.text.sessions) c.document_of-next.ensures ∙ ap (λ (t : TextState). t.sessions) c.in_ok-text.ensures.same ∙
    ap (λ (d : Doc). d.text.sessions) c.self.view_is) c.told.ensures.sessions
