-- Styles of plugins stay with their characters at each event of a document.
use Rattle.std.proofs.Common.{◌≡◌, ℕ, zero, suc, Bool, true, false, cond, if◌then◌else◌, List, [], ◌∷◌, ◌++◌, length, filter, drop, Option, Some, None, refl, ap, sym, ◌∙◌, subst, arith}
use Rattle.std.specs.Prelude.{◌-◌, slice_set}
use Rattle.std.proofs.lemmas.List.{length-map, length-set}
use Rattle.plain_text.specs.declared.run.Run.{Run}
use Rattle.xi_plain.specs.declared.command.EditAct.{EditAct}
use Rattle.xi_plain.specs.declared.command.EditAct.TheVariants as Acts
use Rattle.xi_plain.specs.declared.config.Config.{Config}
use Rattle.plain_edits.specs.Change.{shown_indices}
use Rattle.plain_edits.specs.Collection.{Collection}
use Rattle.plain_edits.specs.History.{History, head, is_visible, text_at, visible_at}
use Rattle.plain_edits.specs.Styles.{Layer, moved_layer, style_of, with_spans}
use Rattle.plain_edits.specs.declared.style.Span.{Span}
use Rattle.plain_edits.proofs.callers.ChangeLemmas.{first_kept, walked}
use Rattle.plain_edits.proofs.callers.StyleLemmas.{carried_layer-length, carried_layer-walked}
use Rattle.span_styles.specs.Layers.{AreOver, layer_at}
use Rattle.span_styles.proofs.ForCallers.{AreOver-new}
use Rattle.stale_spans.specs.declared.asked.AskedSpans.{AskedSpans}
use Rattle.stale_spans.specs.Asked.{layers_with_spans, moved_layers}
use Rattle.stale_spans.specs.Places.{meant_range}
use Rattle.undo_groups.specs.Groups.{Groups, next_redo, next_undo, redone_one, undone_one}
use Rattle.edit_groups.specs.Typing.{kind_of}
use Rattle.edit_ops.specs.Commands.{Effect}
use Rattle.doc_session.specs.declared.event.Event.{Event}
use Rattle.doc_session.specs.declared.event.Event.TheVariants.{Ack, Config as Configure, Count, Edit, Ended, Front, Other, Read, Saved, Spans}
use Rattle.doc_text.specs.Asking.{asked_spans}
use Rattle.doc_text.specs.Collecting.{collection_after, with_collection}
use Rattle.doc_text.specs.Writing.{head_text}
use Rattle.doc_session.specs.Document.{Document, loaded_document, no_request}
use Rattle.doc_view.specs.View.{View}
use Rattle.doc_view.specs.declared.looking.Viewing.{Viewing}
use Rattle.doc_view.specs.declared.looking.Viewing.TheVariants.{Layout, Other as NoCommand}
use Rattle.doc_view.specs.Looking.{viewed_lines, viewing_of}
use Rattle.doc_session.specs.Effects.{pristine_from, settled}
use Rattle.doc_session.specs.Step.{act_step, collected_document, command_step, done_step, effect_on, given_document, history_step, no_edit_step, is_idle, looking_step, saved_document, selected_document, styled_document, taken_step, typed_document, typed_step, undone_document, viewed_document, viewing_step, with_text}
use Rattle.document_laws.specs.Laws.{AreOverText, SaysNoStyles, StylesFollow}
use Rattle.document_laws.proofs.GroupLemmas.{part-stepped}
use Rattle.doc_text.proofs.ForCallers.{head_text-loaded}
use Rattle.doc_session.proofs.ForCallers.{layers-viewed, part-settled as view-settled}

-- ---- where no revision is made the style rule leaves all styles

walked-still : {X : Type 0} (p : X → Bool) (new : X → Option ℕ) (xs : List X) (layer : Layer) → length layer ≡ length (filter p xs) →
    walked p p new xs layer ≡ layer
walked-still p new [] [] same = refl
walked-still p new [] (style ∷ layer) same = absurd (omega (arith, same))
walked-still p new (x ∷ xs) layer same = by (p x) layer same (walked-still p new xs)
  where
    by : (b : Bool) (ys : Layer) → length ys ≡ length (cond b (x ∷ filter p xs) (filter p xs)) →
        ((zs : Layer) → length zs ≡ length (filter p xs) → walked p p new xs zs ≡ zs) →
        cond b (first_kept b ys ++ walked p p new xs (drop 1 ys)) (cond b (new x ∷ []) [] ++ walked p p new xs ys) ≡ ys
    by true [] long rest = absurd (omega (arith, long))
    by true (y ∷ ys) long rest = ap (λ zs. y ∷ zs) (rest ys (omega (arith, long)))
    by false ys long rest = rest ys long

shown-length : (h : History) (rev : ℕ) → length (visible_at h rev) ≡ length (text_at h rev)
shown-length h rev = sym (length-map (visible_at h rev) (λ tagged. tagged.character))

moved-still : (h : History) (layers : List Layer) → AreOver (length (text_at h (head h))) layers → moved_layers h h layers ≡ layers
moved-still h [] over = refl
moved-still h (layer ∷ layers) over =
    let same : length layer ≡ length (visible_at h (head h)) = over.0 ∙ sym (shown-length h (head h)) in
    ap (λ l. l ∷ moved_layers h h layers)
    (carried_layer-walked h (head h) (head h) layer same ∙
    walked-still (is_visible h.revisions (head h)) (λ tagged. None) h.characters layer same) ∙
    ap (λ ls. layer ∷ ls) (moved-still h layers over.1)

-- ---- over the text

moved-over : (before after : History) (layers : List Layer) → AreOver (length (text_at after (head after))) (moved_layers before after layers)
moved-over before after [] = tt
moved-over before after (layer ∷ layers) =
    (carried_layer-length after (head before) (head after) layer ∙ shown-length after (head after), moved-over before after layers)

set-over : (len : ℕ) (layers : List Layer) (index : ℕ) (layer : Layer) → AreOver len layers → length layer ≡ len → AreOver len (slice_set layers index layer)
set-over len [] index layer over same = tt
set-over len (first ∷ layers) zero layer over same = (same, over.1)
set-over len (first ∷ layers) (suc index) layer over same = (over.0, set-over len layers index layer over.1 same)

with_spans-length : (h : History) (rev : ℕ) (range : Run) (spans : List Span) (layer : Layer) → length (with_spans h rev range spans layer) ≡ length (text_at h (head h))
with_spans-length h rev range spans layer =
    length-map (shown_indices h (head h)) _ ∙ sym (length-map (shown_indices h (head h)) (style_of h (head h) layer)) ∙
    carried_layer-length h (head h) (head h) layer ∙ shown-length h (head h)

spans-over : (h : History) (asked : AskedSpans) (index : ℕ) (layers : List Layer) → AreOver (length (text_at h (head h))) layers →
    AreOver (length (text_at h (head h))) (layers_with_spans h asked index layers)
spans-over h asked index layers over =
    let spanned = meant_range (text_at h asked.rev) asked.start asked.len asked.spans in
    let layer = with_spans h asked.rev spanned.range spanned.spans (layer_at layers index) in
    set-over (length (text_at h (head h))) layers index layer over (with_spans-length h asked.rev spanned.range spanned.spans (layer_at layers index))

pub AreOverText-loaded : (text : List ℕ) (plugins limit : ℕ) (config : Config) → AreOverText (loaded_document text plugins limit config)
AreOverText-loaded text plugins limit config =
    subst (λ t. AreOver (length t) (loaded_document text plugins limit config).view.layers) (sym (head_text-loaded text)) (AreOver-new plugins (length text))

-- ---- the steps

abbrev Follows : Document → Document → Type 0
Follows d next = next.view.layers ≡ moved_layers d.text.history next.text.history d.view.layers

-- what is told of a step is no matter, nor what is collected
follows-settled : (request : Run) (d next : Document) → Follows d next → Follows d (settled request d next)
follows-settled request d next follows = view-settled (λ (v : View). v.layers) d.view next.view request (pristine_from d next) refl ∙ follows

follows-collected : (d next : Document) → Follows d next → Follows d (collected_document next)
follows-collected d next follows = by (collection_after next.text)
  where
    by : (found : Option Collection) → Follows d (with_text next (with_collection next.text found))
    by None = follows
    by (Some collection) = follows

module _ (d : Document) (over : AreOverText d) where
  follows-still : d.view.layers ≡ moved_layers d.text.history d.text.history d.view.layers
  follows-still = sym (moved-still d.text.history d.view.layers over)

  follows-command : (act : EditAct) → Follows d (command_step d act (effect_on d act)).document
  follows-command act = by (is_idle d effect)
    where
      effect : Effect
      effect = effect_on d act

      by : (idle : Bool) → Follows d (if idle then no_edit_step d act effect else typed_step d act effect).document
      by true = follows-settled no_request d (selected_document d (kind_of act) effect.regions) follows-still
      by false = follows-settled no_request d (typed_document d (kind_of act) effect) refl

  -- a line that only looks says nothing of styles
  follows-viewing : (viewing : Viewing) → Follows d (viewing_step d viewing).document
  follows-viewing viewing =
      follows-settled (viewed_lines viewing) d (viewed_document d viewing) (layers-viewed d.view viewing ∙ follows-still)

  follows-turned : (group : Option ℕ) (groups : Groups) → Follows d (history_step d group groups).document
  follows-turned None groups = follows-viewing NoCommand
  follows-turned (Some group) groups = follows-settled no_request d (undone_document d groups) refl

  follows-done : (act : EditAct) → Follows d (done_step d act).document
  follows-done Acts.Undo = follows-turned (next_undo d.text.groups) (undone_one d.text.groups)
  follows-done Acts.Redo = follows-turned (next_redo d.text.groups) (redone_one d.text.groups)
  follows-done act = follows-command act

  follows-act : (act : EditAct) → Follows d (act_step d act).document
  follows-act act = by (viewing_of act)
    where
      by : (found : Option Viewing) → Follows d (looking_step d act found).document
      by None = follows-done act
      by (Some viewing) = follows-viewing viewing

  follows-taken : (event : Event) → SaysNoStyles event → Follows d (taken_step d event).document
  follows-taken (Front act) none = follows-act act
  follows-taken (Edit caller edit named) none =
      follows-settled no_request d (given_document d caller edit named) refl
  follows-taken (Spans caller rev start len spans) none = absurd none
  follows-taken (Read caller rev start max) none = follows-still
  follows-taken (Count caller) none = follows-still
  follows-taken (Ack caller rev) none = follows-still
  follows-taken (Ended caller) none = follows-still
  follows-taken (Configure config) none = follows-viewing (Layout config)
  follows-taken Saved none = follows-settled no_request d (saved_document d) follows-still
  follows-taken Other none = follows-viewing NoCommand

  follows-event : (event : Event) → SaysNoStyles event → StylesFollow d event
  follows-event event none =
      let next = (taken_step d event).document in
      let made = collected_document next in
      let follows : Follows d made = follows-collected d next (follows-taken event none) in
      record {
        over = subst (AreOver (length (head_text made.text))) (sym follows) (moved-over d.text.history made.text.history d.view.layers);
        as_many = ap length follows ∙ length-map d.view.layers (moved_layer d.text.history made.text.history);
        moved = λ says. follows;
      }

-- ---- spans

-- what is told is no matter, nor what is collected
over-settled : (d next : Document) → AreOverText next → AreOverText (settled no_request d next)
over-settled d next over =
    subst (AreOver (length (head_text next.text))) (sym (view-settled (λ (v : View). v.layers) d.view next.view no_request (pristine_from d next) refl)) over

over-collected : (next : Document) → AreOverText next → AreOverText (collected_document next)
over-collected next over = by (collection_after next.text)
  where
    by : (found : Option Collection) → AreOverText (with_text next (with_collection next.text found))
    by None = over
    by (Some collection) = over

spans-event : (d : Document) (caller rev start len : ℕ) (spans : List Span) → AreOverText d → StylesFollow d (Spans caller rev start len spans)
spans-event d caller rev start len spans over =
    let asked = asked_spans rev start len spans in
    let next = styled_document d caller asked in
    record {
      over = over-collected (settled no_request d next) (over-settled d next (spans-over d.text.history asked (caller - 1) d.view.layers over));
      as_many = part-stepped (λ (x : Document). length x.view.layers) d next (λ screen asked. refl) (λ x collection. refl) ∙ length-set d.view.layers (caller - 1) _;
      moved = λ none. absurd none;
    }

-- AT EACH EVENT
pub layers_follow : (d : Document) (event : Event) → AreOverText d → StylesFollow d event
layers_follow d (Front act) over = follows-event d over (Front act) tt
layers_follow d (Edit caller edit named) over = follows-event d over (Edit caller edit named) tt
layers_follow d (Spans caller rev start len spans) over = spans-event d caller rev start len spans over
layers_follow d (Read caller rev start max) over = follows-event d over (Read caller rev start max) tt
layers_follow d (Count caller) over = follows-event d over (Count caller) tt
layers_follow d (Ack caller rev) over = follows-event d over (Ack caller rev) tt
layers_follow d (Ended caller) over = follows-event d over (Ended caller) tt
layers_follow d (Configure config) over = follows-event d over (Configure config) tt
layers_follow d Saved over = follows-event d over Saved tt
layers_follow d Other over = follows-event d over Other tt
