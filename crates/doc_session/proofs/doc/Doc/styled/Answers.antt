use Rattle.std.proofs.Common.{◌≡◌, ◌-◌, length, ap, sym, ◌∙◌, subst, arith}
use Rattle.std.proofs.lemmas.Result.{err_from_is_err_and}
use Rattle.span_styles.specs.Layers.{AreOver}
use Rattle.stale_spans.specs.Asked.{layers_with_spans}
use Rattle.doc_text.specs.InMemory.{TextState, text_in}
use Rattle.doc_text.proofs.ForCallers.{DocRefuses-place, DocRefuses-revision, range_refusal-none}
use Rattle.doc_view.specs.View.{View}
use Rattle.doc_session.specs.InMemory.{Doc}
use Rattle.doc_session.specs.Stands.{DocStandsFor}
use Rattle.doc_session.specs.Step.{styled_document}
use Rattle.doc_session.proofs.LayerLemmas.{IsUntold-styled}
use Rattle.doc_session.proofs.doc.Doc.styled.Goals as goal

pub with_spans-requires-clause-over : goal.with_spans-requires-clause-over
with_spans-requires-clause-over c =
    let doc = c.self.inside in
    subst (λ n. AreOver n c.layers.result.now) (ap length c.self.invariant.shown_is ∙ sym c.in_ok-read.ensures.leads)
    (subst (AreOver (length doc.view.text)) (sym c.layers.ensures) c.self.invariant.over)

pub with_spans-requires-clause-known : goal.with_spans-requires-clause-known
with_spans-requires-clause-known c =
    omega (
      arith,
      ap length c.layers.ensures,
      c.self.invariant.as_many,
      ap (λ (d : Doc). length d.text.sessions) c.self.view_is,
      c.requires.caller.0,
      c.requires.caller.1,
    )

pub document_of-next-requires : goal.document_of-next-requires
document_of-next-requires c =
    let text_is = ap (λ (v : View). v.text) c.in_ok-view.ensures in
    let layers_are = ap (λ (v : View). v.layers) c.in_ok-view.ensures in
    let long = c.in_ok-read.ensures.leads ∙ sym (ap length (text_is ∙ c.self.invariant.shown_is)) in
    record {
      shown_is = text_is ∙ c.self.invariant.shown_is ∙ ap text_in (sym c.in_ok-text.ensures);
      over = subst (AreOver (length c.in_ok-view.view.text)) (sym layers_are) (subst (λ n. AreOver n c.in_ok-layers.layers) long c.in_ok-layers.ensures.over);
      as_many =
          ap length layers_are ∙ c.in_ok-layers.ensures.as_many ∙ ap length c.layers.ensures ∙ c.self.invariant.as_many ∙
          ap (λ (t : TextState). length t.sessions) (sym c.in_ok-text.ensures);
    }

pub told-requires : goal.told-requires
told-requires c = record {
  text =
      ap (λ (d : Doc). d.view.text) c.document_of-next.ensures ∙ ap (λ (v : View). v.text) c.in_ok-view.ensures ∙ ap (λ (d : Doc). d.view.text) c.self.view_is;
}

pub returns-clause-stepped : goal.returns-clause-stepped
returns-clause-stepped c = λ plain stands.
    let now = c.args.self.now in
    let asked = c.args.asked.now in
    let caller = c.args.caller in
    let layers = c.in_ok-layers.layers in
    let was = subst (λ (d : Doc). DocStandsFor d plain) (sym c.self.view_is) stands in
    let layers_are : layers ≡ layers_with_spans plain.text.history asked (caller - 1) now.view.layers =
    c.in_ok-layers.ensures.layers plain.text.history (c.in_ok-read.ensures.read plain.text was.text) ∙
    ap (layers_with_spans plain.text.history asked (caller - 1)) (c.layers.ensures ∙ ap (λ (d : Doc). d.view.layers) c.self.view_is) in
    let text_is = ap (λ (d : Doc). d.text) c.document_of-next.ensures ∙ c.in_ok-text.ensures ∙ ap (λ (d : Doc). d.text) c.self.view_is in
    let view_is = ap (λ (d : Doc). d.view) c.document_of-next.ensures ∙ c.in_ok-view.ensures ∙
    ap (λ (d : Doc). record d.view { layers = layers }) c.self.view_is in
    c.in_ok-told.ensures.stepped plain (styled_document plain caller asked) stands
    (IsUntold-styled now c.document_of-next.result plain caller asked layers stands text_is view_is layers_are)

pub returns-clause-accepted : goal.returns-clause-accepted
returns-clause-accepted c = λ plain stands.
    let was = subst (λ (d : Doc). DocStandsFor d plain) (sym c.self.view_is) stands in
    range_refusal-none plain.text.history c.args.asked.now c.in_ok-read.read.text (c.in_ok-read.ensures.accepted plain.text was.text)
    (c.in_ok-read.ensures.read plain.text was.text).text c.in_ok-layers.ensures.accepted

pub returns-clause-sessions : goal.returns-clause-sessions
returns-clause-sessions c =
    c.in_ok-told.ensures.sessions ∙ ap (λ (d : Doc). d.text.sessions) c.document_of-next.ensures ∙
    ap (λ (t : TextState). t.sessions) c.in_ok-text.ensures ∙ ap (λ (d : Doc). d.text.sessions) c.self.view_is

pub returns-in_err-read-clause-refused : goal.returns-in_err-read-clause-refused
returns-in_err-read-clause-refused c = λ plain stands.
    let was = subst (λ (d : Doc). DocStandsFor d plain) (sym c.self.view_is) stands in
    let p = err_from_is_err_and c.from_residual.result c.from_residual.ensures.1 in
    rw (p.1, p.2) (DocRefuses-revision plain.text.history c.args.asked.now c.in_err-read.field-0.0 (c.in_err-read.ensures.refused plain.text was.text))

pub returns-in_err-layers-clause-refused : goal.returns-in_err-layers-clause-refused
returns-in_err-layers-clause-refused c = λ plain stands.
    let was = subst (λ (d : Doc). DocStandsFor d plain) (sym c.self.view_is) stands in
    let p = err_from_is_err_and c.from_residual-in_err-layers.result c.from_residual-in_err-layers.ensures.1 in
    rw (p.1, p.2) (DocRefuses-place plain.text.history c.args.asked.now c.in_ok-read.read.text (c.in_ok-read.ensures.accepted plain.text was.text)
    (c.in_ok-read.ensures.read plain.text was.text).text c.in_err-layers.field-0.0 c.in_err-layers.ensures.refused)
