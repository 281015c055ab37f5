use Rattle.std.proofs.Common.{arith, ℕ, List, length, Some, refl, ap, sym, ◌∙◌}
use Rattle.std.proofs.lemmas.List.{length-replicate}
use Rattle.span_styles.specs.Layers.{new_layers}
use Rattle.doc_text.proofs.ForCallers.{head_text-loaded}
use Rattle.doc_view.specs.View.{View}
use Rattle.doc_session.specs.Document.{opened_view}
use Rattle.doc_session.proofs.LayerLemmas.{as_many-new, over-new}
use Rattle.doc_session.proofs.doc.Doc.of_text.Goals as goal

pub returns : goal.returns
returns c =
    let shown_is = c.head_rope.ensures.shown ∙ c.in_ok-text.ensures.shown in
    record {
      stands = record {
        text = c.in_ok-text.ensures.stands;
        view = c.in_ok-view.ensures ∙ ap (λ (t : List ℕ). opened_view t c.args.plugins c.args.config) shown_is;
        of_head = sym (head_text-loaded c.args.text);
        regions_are = record { some = λ none. cc; sound = tt; inside = (omega arith, tt) };
        screen = refl;
      };
    }

pub invariant_of-result : goal.invariant_of-result
invariant_of-result c =
    let shown = c.head_rope.ensures.shown in
    let text_is = ap (λ (v : View). v.text) c.in_ok-view.ensures ∙ shown in
    let layers_are =
    ap (λ (v : View). v.layers) c.in_ok-view.ensures ∙ ap (λ (t : List ℕ). new_layers c.args.plugins (length t)) (shown ∙ c.in_ok-text.ensures.shown) in
    record {
      shown_is = text_is;
      over = over-new c.args.plugins c.args.text c.in_ok-view.view.text c.in_ok-view.view.layers layers_are (text_is ∙ c.in_ok-text.ensures.shown);
      as_many =
          as_many-new c.args.plugins (length c.args.text) c.in_ok-view.view.layers layers_are ∙
          sym (ap length c.in_ok-text.ensures.stands.parts.sessions ∙ length-replicate c.args.plugins (Some 0));
    }
