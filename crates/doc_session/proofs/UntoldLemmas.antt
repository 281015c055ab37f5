-- What an event leaves of a document in memory, before its front end was told.
use Rattle.std.proofs.Common.{◌≡◌, ◌≢◌, ℕ, Bool, List, [], length, map, Option, None, refl, ap, ap₂, sym, ◌∙◌, subst}
use Rattle.plain_text.specs.declared.selection.Region.{Region}
use Rattle.plain_edits.specs.Styles.{Layer}
use Rattle.stale_spans.specs.Asked.{moved_layers}
use Rattle.edit_ops.specs.Regions.{without_goal}
use Rattle.edit_groups.specs.declared.typing.Kind.{Kind}
use Rattle.doc_view.specs.declared.search.Search.{Search}
use Rattle.doc_view.specs.Search.{next_found, next_match, previous_found, previous_match, results}
use Rattle.doc_view.proofs.ForCallers.{AreWithin-plain, IsSelection-plain, next_found-within, previous_found-within, some-plain, with_match-some, with_match-sound}
use Rattle.doc_text.specs.declared.revised.Revised.{Revised}
use Rattle.doc_text.specs.InMemory.{text_in}
use Rattle.doc_text.specs.Revised.{IsRevised}
use Rattle.doc_text.specs.Revisions.{going_on}
use Rattle.doc_text.specs.Stands.{IsTextOf}
use Rattle.doc_text.specs.Writing.{Writing, head_text}
use Rattle.doc_text.proofs.ForCallers.{text_in-stands}
use Rattle.selection_core.specs.Mapped.{AreWithin}
use Rattle.selection_core.specs.Selection.{IsSelection}
use Rattle.doc_layout.specs.Told.{screen_of}
use Rattle.doc_view.specs.View.{View}
use Rattle.doc_view.specs.declared.looking.Viewing.{Viewing}
use Rattle.doc_view.specs.declared.looking.Viewing.TheVariants.{Layout, Lines, Next, Other, Previous, Seek, Window}
use Rattle.doc_view.specs.Looking.{viewed}
use Rattle.doc_session.specs.Document.{Document, layout_of}
use Rattle.doc_session.specs.InMemory.{Doc}
use Rattle.doc_session.specs.Inner.{IsUntold}
use Rattle.doc_session.specs.Stands.{AreRegionsOf, DocStandsFor}
use Rattle.doc_session.specs.Step.{revised_document, selected_document, viewed_document}

-- no revision, and other regions
pub IsUntold-still : (doc made : Doc) (plain : Document) (kind : Option Kind) (regions others : List Region) → DocStandsFor doc plain →
    IsTextOf made.text (going_on plain.text kind) → made.view ≡ record doc.view { regions = regions } → regions ≡ others →
    AreRegionsOf plain.view.text others → IsUntold made plain (selected_document plain kind others)
IsUntold-still doc made plain kind regions others stands text view_is same are = record {
  text = text;
  view = view_is ∙ ap₂ (λ (v : View) (rs : List Region). record v { regions = rs }) stands.view same;
  of_head = stands.of_head;
  regions_are = are;
  screen_stays = refl;
  shown = stands.screen;
}

-- the regions then are some of its text
pub AreRegionsOf-plain : (text : List ℕ) (regions : List Region) → AreRegionsOf text regions → AreRegionsOf text (map without_goal regions)
AreRegionsOf-plain text regions are = record {
  some = some-plain regions are.some;
  sound = IsSelection-plain regions are.sound;
  inside = AreWithin-plain (length text) regions are.inside;
}

pub AreRegionsOf-next : (text : List ℕ) (query : Search) (wrap_around : Option Bool) (regions : List Region) → AreRegionsOf text regions →
    AreRegionsOf text (next_found text query wrap_around regions)
AreRegionsOf-next text query wrap_around regions are = record {
  some = with_match-some regions (next_match (results text query) wrap_around regions) are.some;
  sound = with_match-sound regions (next_match (results text query) wrap_around regions) are.sound;
  inside = next_found-within text query wrap_around regions are.inside;
}

pub AreRegionsOf-previous : (text : List ℕ) (query : Search) (wrap_around : Option Bool) (regions : List Region) → AreRegionsOf text regions →
    AreRegionsOf text (previous_found text query wrap_around regions)
AreRegionsOf-previous text query wrap_around regions are = record {
  some = with_match-some regions (previous_match (results text query) wrap_around regions) are.some;
  sound = with_match-sound regions (previous_match (results text query) wrap_around regions) are.sound;
  inside = previous_found-within text query wrap_around regions are.inside;
}

-- ---- lines that leave the text as it is

-- the text stays, and so do the styles of its characters and what the front end was told
pub text-viewed : (view : View) (viewing : Viewing) → (viewed view viewing).text ≡ view.text
text-viewed view (Window lines) = refl
text-viewed view (Lines lines) = refl
text-viewed view (Seek chars case_counts) = refl
text-viewed view (Next wrap_around) = refl
text-viewed view (Previous wrap_around) = refl
text-viewed view (Layout config) = refl
text-viewed view Other = refl

pub layers-viewed : (view : View) (viewing : Viewing) → (viewed view viewing).layers ≡ view.layers
layers-viewed view (Window lines) = refl
layers-viewed view (Lines lines) = refl
layers-viewed view (Seek chars case_counts) = refl
layers-viewed view (Next wrap_around) = refl
layers-viewed view (Previous wrap_around) = refl
layers-viewed view (Layout config) = refl
layers-viewed view Other = refl

pub shown-viewed : (view : View) (viewing : Viewing) → (viewed view viewing).shown ≡ view.shown
shown-viewed view (Window lines) = refl
shown-viewed view (Lines lines) = refl
shown-viewed view (Seek chars case_counts) = refl
shown-viewed view (Next wrap_around) = refl
shown-viewed view (Previous wrap_around) = refl
shown-viewed view (Layout config) = refl
shown-viewed view Other = refl

AreRegionsOf-viewed : (view : View) (viewing : Viewing) → AreRegionsOf view.text view.regions →
    AreRegionsOf (viewed view viewing).text (viewed view viewing).regions
AreRegionsOf-viewed view (Window lines) are = AreRegionsOf-plain view.text view.regions are
AreRegionsOf-viewed view (Lines lines) are = AreRegionsOf-plain view.text view.regions are
AreRegionsOf-viewed view (Seek chars case_counts) are = AreRegionsOf-plain view.text view.regions are
AreRegionsOf-viewed view (Next wrap_around) are = AreRegionsOf-next view.text view.query wrap_around view.regions are
AreRegionsOf-viewed view (Previous wrap_around) are = AreRegionsOf-previous view.text view.query wrap_around view.regions are
AreRegionsOf-viewed view (Layout config) are = are
AreRegionsOf-viewed view Other are = are

-- the document in memory is left as the plain one is
pub IsUntold-viewed : (doc made : Doc) (plain : Document) (viewing : Viewing) → DocStandsFor doc plain → IsTextOf made.text (going_on plain.text None) →
    made.view ≡ viewed doc.view viewing → IsUntold made plain (viewed_document plain viewing)
IsUntold-viewed doc made plain viewing stands text view_is = record {
  text = text;
  view = view_is ∙ ap (λ (v : View). viewed v viewing) stands.view;
  of_head = text-viewed plain.view viewing ∙ stands.of_head;
  regions_are = AreRegionsOf-viewed plain.view viewing stands.regions_are;
  screen_stays = refl;
  shown = stands.screen ∙ ap (λ last. screen_of last (layout_of plain)) (sym (shown-viewed plain.view viewing));
}

-- ---- a revision

-- the document in memory after it
abbrev pub later_doc : Doc → Revised → List Region → List Layer → Doc
later_doc doc revised regions layers = record {
  text = revised.text;
  view = record doc.view { text = text_in revised.text; regions = regions; layers = layers };
}

pub IsUntold-revised : (doc made : Doc) (plain : Document) (next : Writing) (author : ℕ) (revised : Revised) (regions : List Region) (layers : List Layer) →
    DocStandsFor doc plain → IsRevised plain.text next author revised → made ≡ later_doc doc revised regions layers → regions ≢ [] → IsSelection regions →
    AreWithin (length (text_in revised.text)) regions → layers ≡ moved_layers plain.text.history next.history plain.view.layers →
    IsUntold made plain (revised_document plain next regions)
IsUntold-revised doc made plain next author revised regions layers stands after is some sound inside layers_are =
    let At : Doc → Type 0 = λ d. IsUntold d plain (revised_document plain next regions) in
    let shown : text_in revised.text ≡ head_text next = text_in-stands revised.text next after.stands in
    subst At (sym is) (record {
      text = after.stands;
      view =
          ap (λ (v : View). record v { text = text_in revised.text; regions = regions; layers = layers }) stands.view ∙
          ap₂ (λ (t : List ℕ) (ls : List Layer). record plain.view { text = t; regions = regions; layers = ls }) shown layers_are;
      of_head = refl;
      regions_are = record { some = some; sound = sound; inside = subst (λ t. AreWithin (length t) regions) shown inside };
      screen_stays = refl;
      shown = stands.screen;
    })
