-- Layers of styles over the head text of a document: over the change of a revision, and after spans of a plugin.
use Rattle.std.proofs.Common.{◌≡◌, ℕ, List, length, refl, ap, sym, ◌∙◌, subst}
use Rattle.std.specs.Prelude.{◌-◌}
use Rattle.std.proofs.lemmas.List.{length-map, length-replicate}
use Rattle.plain_edits.specs.declared.delta.UnitDelta.{UnitDelta}
use Rattle.plain_edits.specs.Styles.{Layer, mapped_layer}
use Rattle.plain_edits.specs.UnitDelta.{unit_adds, unit_keeps}
use Rattle.span_styles.specs.Layers.{AreOver, length_after, mapped_layers, new_layers, unstyled}
use Rattle.span_styles.proofs.ForCallers.{AreOver-mapped, AreOver-new, length_after-text}
use Rattle.stale_spans.specs.declared.asked.AskedSpans.{AskedSpans}
use Rattle.stale_spans.specs.Asked.{layers_with_spans, moved_layers}
use Rattle.stale_spans.proofs.ForCallers.{mapped_layers-change}
use Rattle.doc_layout.specs.Changed.{IsChangeOf}
use Rattle.doc_view.specs.View.{View}
use Rattle.doc_text.specs.declared.revised.Revised.{Revised}
use Rattle.doc_text.specs.Revised.{IsRevised}
use Rattle.doc_text.specs.Stands.{IsTextOf}
use Rattle.doc_text.specs.Writing.{Writing, head_text}
use Rattle.doc_session.specs.Document.{Document}
use Rattle.doc_session.specs.InMemory.{Doc}
use Rattle.doc_session.specs.Inner.{IsUntold}
use Rattle.doc_session.specs.Stands.{DocStandsFor}
use Rattle.doc_session.specs.Step.{styled_document}
use Rattle.doc_session.specs.Whole.{IsKept}

-- on a text that was just loaded
pub over-new : (plugins : ℕ) (text other : List ℕ) (layers : List Layer) → layers ≡ new_layers plugins (length text) → other ≡ text → AreOver (length other) layers
over-new plugins text other layers is same =
    subst (λ t. AreOver (length t) layers) (sym same) (subst (AreOver (length text)) (sym is) (AreOver-new plugins (length text)))

pub as_many-new : (plugins len : ℕ) (layers : List Layer) → layers ≡ new_layers plugins len → length layers ≡ plugins
as_many-new plugins len layers is = ap length is ∙ length-replicate plugins (unstyled len)

-- ---- what a document in memory keeps

pub over-kept : (doc now : Doc) (layers : List Layer) → IsKept doc → doc ≡ now → layers ≡ now.view.layers → AreOver (length now.view.text) layers
over-kept doc now layers kept same is =
    subst (AreOver (length now.view.text)) (sym is) (subst (λ (d : Doc). AreOver (length d.view.text) d.view.layers) same kept.over)

pub as_many-kept : (doc now : Doc) → IsKept doc → doc ≡ now → length now.view.layers ≡ length now.text.sessions
as_many-kept doc now kept same = subst (λ (d : Doc). length d.view.layers ≡ length d.text.sessions) same kept.as_many

-- ---- over the change of a revision

-- 64 bits count the characters after it
pub length_after-changed : (text made : List ℕ) (units : UnitDelta) → IsChangeOf text made units → length_after units ≡ length made
length_after-changed text made units is = length_after-text units text (sym is.base) ∙ ap length (sym is.leads)

pub over-changed : (text made : List ℕ) (units : UnitDelta) (layers moved : List Layer) → IsChangeOf text made units → AreOver (length text) layers →
    moved ≡ mapped_layers units layers → AreOver (length made) moved
over-changed text made units layers moved is over moved_is =
    subst (λ n. AreOver n moved) (length_after-changed text made units is)
    (subst (AreOver (length_after units)) (sym moved_is) (AreOver-mapped units layers (subst (λ n. AreOver n layers) (sym is.base) over)))

pub as_many-changed : (units : UnitDelta) (layers moved : List Layer) → moved ≡ mapped_layers units layers → length moved ≡ length layers
as_many-changed units layers moved is = ap length is ∙ length-map layers (mapped_layer (unit_keeps units) (unit_adds units))

-- they follow by the style rule, whatever document it stands for
pub moved-changed : (doc : Doc) (plain : Document) (next : Writing) (author : ℕ) (revised : Revised) (moved : List Layer) → DocStandsFor doc plain →
    IsRevised plain.text next author revised → AreOver (length doc.view.text) doc.view.layers →
    moved ≡ mapped_layers revised.units doc.view.layers → moved ≡ moved_layers plain.text.history next.history plain.view.layers
moved-changed doc plain next author revised moved stands after over is =
    let shown = ap (λ (v : View). v.text) stands.view ∙ stands.of_head in
    let here : AreOver (length (head_text plain.text)) doc.view.layers = subst (λ t. AreOver (length t) doc.view.layers) shown over in
    is ∙ mapped_layers-change plain.text.history next.history revised.units after.changes.kept after.changes.added after.text_before doc.view.layers here ∙
    ap (λ (v : View). moved_layers plain.text.history next.history v.layers) stands.view

-- ---- after spans of a plugin

pub IsUntold-styled : (doc made : Doc) (plain : Document) (caller : ℕ) (asked : AskedSpans) (layers : List Layer) → DocStandsFor doc plain →
    made.text ≡ doc.text → made.view ≡ record doc.view { layers = layers } →
    layers ≡ layers_with_spans plain.text.history asked (caller - 1) doc.view.layers → IsUntold made plain (styled_document plain caller asked)
IsUntold-styled doc made plain caller asked layers stands text_is view_is layers_are = record {
  text = subst (λ t. IsTextOf t plain.text) (sym text_is) stands.text.parts;
  view =
      view_is ∙ ap (λ (ls : List Layer). record doc.view { layers = ls }) layers_are ∙
      ap (λ (v : View). record v { layers = layers_with_spans plain.text.history asked (caller - 1) v.layers }) stands.view;
  of_head = stands.of_head;
  regions_are = stands.regions_are;
  screen_stays = refl;
  shown = stands.screen;
}
