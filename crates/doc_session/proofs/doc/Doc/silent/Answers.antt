use Rattle.std.proofs.Common.{length, refl, ap, sym, ◌∙◌}
use Rattle.doc_text.specs.InMemory.{head_shown, text_in}
use Rattle.doc_view.specs.View.{View}
use Rattle.doc_session.specs.InMemory.{Doc}
use Rattle.doc_session.proofs.doc.Doc.silent.Goals as goal

pub invariant_of-next : goal.invariant_of-next
invariant_of-next c =
    let shown = ap (λ (v : View). v.text) c.in_ok-copy.ensures in
    let layers_are = ap (λ (v : View). v.layers) c.in_ok-copy.ensures in
    record {
      shown_is = shown ∙ c.self.invariant.shown_is ∙ ap (λ (d : Doc). text_in d.text) c.self.view_is ∙ ap head_shown (sym c.requires.engine);
      over = rw (shown, layers_are) c.self.invariant.over;
      as_many = ap length layers_are ∙ c.self.invariant.as_many ∙ ap (λ (d : Doc). length d.text.sessions) c.self.view_is ∙ sym c.requires.count;
    }

pub returns-clause-stepped : goal.returns-clause-stepped
returns-clause-stepped c = λ plain next stands is same. record {
  stands = record {
    text = is;
    view = c.in_ok-copy.ensures ∙ ap (λ (d : Doc). d.view) c.self.view_is ∙ stands.view;
    of_head = stands.of_head ∙ sym same;
    regions_are = stands.regions_are;
    screen = stands.screen;
  };
  effects = record { body = refl; update = refl; scroll = refl; notice = refl };
}
