use Rattle.std.proofs.Common.{length, refl, ap, sym, ◌∙◌, subst}
use Rattle.span_styles.specs.Layers.{AreOver}
use Rattle.doc_view.specs.declared.told.Pristine.{Pristine}
use Rattle.doc_view.specs.Told.{IsTextLeft}
use Rattle.doc_view.specs.View.{View}
use Rattle.doc_session.specs.InMemory.{Doc}
use Rattle.doc_session.proofs.SettleLemmas.{part-settled}
use Rattle.doc_session.proofs.doc.Doc.updated.Goals as goal

pub settled-requires : goal.settled-requires
settled-requires c = record {
  text =
      subst (λ (v : View). IsTextLeft c.args.text v c.next.inside.view) (sym (ap (λ (d : Doc). d.view) c.self.view_is))
      (subst (IsTextLeft c.args.text c.args.self.now.view) (sym (ap (λ (d : Doc). d.view) c.next.view_is)) c.requires.text);
}

pub invariant_of-result : goal.invariant_of-result
invariant_of-result c =
    let next = c.next.inside in
    let pristine : Pristine = record { before = c.is_pristine.result; after = c.is_pristine-2.result } in
    let text_is = ap (λ (v : View). v.text) c.in_ok-view.ensures.view ∙ part-settled (λ (v : View). v.text) c.self.inside.view next.view c.args.request pristine refl in
    let layers_are = ap (λ (v : View). v.layers) c.in_ok-view.ensures.view ∙ part-settled (λ (v : View). v.layers) c.self.inside.view next.view c.args.request pristine refl in
    record {
      shown_is = text_is ∙ c.next.invariant.shown_is;
      over = subst (AreOver (length c.in_ok-view.view.text)) (sym layers_are) (subst (λ t. AreOver (length t) next.view.layers) (sym text_is) c.next.invariant.over);
      as_many = ap length layers_are ∙ c.next.invariant.as_many;
    }
