use Rattle.std.proofs.Common.{length, ap, sym, ◌∙◌}
use Rattle.doc_text.specs.InMemory.{text_in}
use Rattle.doc_view.specs.View.{View}
use Rattle.doc_session.specs.InMemory.{Doc}
use Rattle.doc_session.proofs.doc.Doc.with_collected.Goals as goal

pub invariant_of-result : goal.invariant_of-result
invariant_of-result c =
    let shown = ap (λ (v : View). v.text) c.in_ok-copy.ensures in
    let layers_are = ap (λ (v : View). v.layers) c.in_ok-copy.ensures in
    record {
      shown_is = shown ∙ c.self.invariant.shown_is ∙ ap (λ (d : Doc). text_in d.text) c.self.view_is ∙ sym c.requires.shown;
      over = rw (shown, layers_are) c.self.invariant.over;
      as_many = ap length layers_are ∙ c.self.invariant.as_many ∙ ap (λ (d : Doc). length d.text.sessions) c.self.view_is ∙ ap length (sym c.requires.count);
    }

pub returns : goal.returns
returns c =
    ap (λ (v : View). record { text = c.args.text; view = v }) (c.in_ok-copy.ensures ∙ ap (λ (d : Doc). d.view) c.self.view_is)
