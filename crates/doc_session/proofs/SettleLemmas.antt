-- When a front end is told, and what a document in memory stands for then.
use Rattle.std.proofs.Common.{◌≡◌, Bool, true, false, List, [], Option, Some, None, refl, ap, ap₂, sym, ◌∙◌, subst}
use Rattle.std.specs.Prelude.{if◌then◌else◌, ◌==◌, not, ◌||◌, unwrap_or}
use Rattle.plain_text.specs.declared.run.Run.{Run}
use Rattle.plain_screen.specs.declared.screen.Line.{Line}
use Rattle.plain_screen.specs.declared.screen.Update.{Update}
use Rattle.plain_screen.specs.Plan.{shown_lines}
use Rattle.plain_screen.specs.SameLayout.{is_same_layout}
use Rattle.plain_screen.specs.Screen.{Screen, screen_after}
use Rattle.plain_screen.proofs.callers.PlanLemmas.{screen_after-plan_from}
use Rattle.plain_screen.proofs.callers.SameLemmas.{is_same_layout-Decides}
use Rattle.doc_layout.specs.declared.asked.Asked.{Asked}
use Rattle.doc_layout.specs.Layout.{Position}
use Rattle.doc_layout.specs.Told.{planned, screen_of, scroll_between}
use Rattle.doc_view.specs.declared.told.Pristine.{Pristine}
use Rattle.doc_view.specs.Told.{differ, has_asked, is_lacking, settled_view, told}
use Rattle.doc_view.specs.View.{View, asked_in, layout_in, point_in}
use Rattle.doc_text.specs.InMemory.{TextState, is_pristine_in}
use Rattle.doc_text.specs.Collecting.{collected_text}
use Rattle.doc_text.specs.Stands.{IsTextOf, TextStandsFor}
use Rattle.doc_text.specs.Writing.{Writing, head_text, is_pristine}
use Rattle.doc_text.proofs.ForCallers.{head-text, part-collected}
use Rattle.doc_session.specs.Document.{Document, layout_of}
use Rattle.doc_session.specs.Effects.{pristine_from, screen_told, settled, update_after}
use Rattle.doc_session.specs.InMemory.{Doc}
use Rattle.doc_session.specs.Inner.{IsUncollected, IsUntold, pristine_to}
use Rattle.doc_session.specs.Stands.{AreRegionsOf, DocStandsFor, IsLastTold}
use Rattle.doc_session.specs.Step.{collected_document, scroll_if}

-- ---- what an update makes of a screen

-- it has the lines that were asked for, whatever it was
pub screen_after-planned : (screen : Screen) (asked : Asked) (lines : List Line) (pristine : Bool) →
    screen_after screen (planned asked lines pristine).ops ≡ Some (shown_lines asked.window asked.request lines)
screen_after-planned screen asked lines pristine = screen_after-plan_from asked.window asked.request lines 0 0 screen

pub screen_told-planned : (screen : Screen) (asked : Asked) (lines : List Line) (pristine : Bool) →
    screen_told (Some (planned asked lines pristine)) screen ≡ shown_lines asked.window asked.request lines
screen_told-planned screen asked lines pristine = ap (λ o. unwrap_or o []) (screen_after-planned screen asked lines pristine)

-- ---- what a view keeps, whether its front end was told or not

pub part-settled : {X : Type 0} (f : View → X) (before after : View) (request : Run) (pristine : Pristine) →
    f (record after { shown = Some (asked_in after request) }) ≡ f after → f (settled_view before after request pristine) ≡ f after
part-settled f before after request pristine same = by (is_lacking before after request pristine)
  where
    by : (b : Bool) → f (if b then record after { shown = Some (asked_in after request) } else after) ≡ f after
    by true = same
    by false = refl

AreRegionsOf-settled : (before after : View) (request : Run) (pristine : Pristine) → AreRegionsOf after.text after.regions →
    AreRegionsOf (settled_view before after request pristine).text (settled_view before after request pristine).regions
AreRegionsOf-settled before after request pristine are = by (is_lacking before after request pristine)
  where
    view_by : Bool → View
    view_by b = if b then record after { shown = Some (asked_in after request) } else after

    by : (b : Bool) → AreRegionsOf (view_by b).text (view_by b).regions
    by true = are
    by false = are

-- ---- the screen of a document

-- nothing is lacking where the lines are there and the layouts are the same
none_lacking : (has other same : Bool) → (not has || (other || not same)) ≡ false → (has ≡ true) × (same ≡ true)
none_lacking true false true is = (refl, refl)
none_lacking true false false is = absurd cc
none_lacking true true same is = absurd cc
none_lacking false other same is = absurd cc

-- a document whose screen is that of the one before
module _ (plain next : Document) (request : Run) (was : plain.screen ≡ screen_of next.view.shown (layout_of plain))
    (stays : next.screen ≡ plain.screen) where
  -- where nothing is lacking it is of the next layout, and has the lines that are asked for
  pub unwanted : is_lacking plain.view next.view request (pristine_from plain next) ≡ false →
      (next.screen ≡ screen_of next.view.shown (layout_of next)) × (has_asked next.view request ≡ true)
  unwanted none =
      let flags =
      none_lacking (has_asked next.view request) (differ (is_pristine plain.text) (is_pristine next.text)) (is_same_layout (layout_of plain) (layout_of next)) none in
      (stays ∙ was ∙ ap (screen_of next.view.shown) ((is_same_layout-Decides (layout_of plain) (layout_of next)).0 flags.1), flags.0)

  -- it is as the last update left it, then too
  pub IsLastTold-settled : IsLastTold (settled request plain next)
  IsLastTold-settled = by (is_lacking plain.view next.view request (pristine_from plain next)) refl
    where
      view_by : Bool → View
      view_by b = if b then record next.view { shown = Some (asked_in next.view request) } else next.view

      told_by : Bool → Option Update
      told_by b = if b then Some (planned (asked_in next.view request) (layout_in next.view) (is_pristine next.text)) else None

      by : (b : Bool) → is_lacking plain.view next.view request (pristine_from plain next) ≡ b →
          screen_told (told_by b) next.screen ≡ screen_of (view_by b).shown (layout_in (view_by b))
      by true lacks = screen_told-planned next.screen (asked_in next.view request) (layout_of next) (is_pristine next.text)
      by false lacks = (unwanted lacks).0

-- ---- what is told of a document in memory, and what it stands for then

pristine-is_text : (text : TextState) (plain : Writing) → IsTextOf text plain → is_pristine_in text ≡ is_pristine plain
pristine-is_text text plain is = ap₂ (λ now saved. now == saved) (head-text text plain is) is.saved

module _ (doc made : Doc) (request : Run) (plain next : Document) (stands : DocStandsFor doc plain) (untold : IsUntold made plain next) where
  pristine-is : pristine_to doc made ≡ pristine_from plain next
  pristine-is =
      ap₂ (λ (was is : Bool). record { before = was; after = is }) (pristine-is_text doc.text plain.text stands.text.parts)
      (pristine-is_text made.text next.text untold.text)

  pub update-told : (update : Option Update) → update ≡ told doc.view made.view request (pristine_to doc made) → update ≡ update_after request plain next
  update-told update is =
      is ∙ ap₂ (λ (v w : View). told v w request (pristine_to doc made)) stands.view untold.view ∙ ap (told plain.view next.view request) pristine-is

  pub scroll-told : (asked : Bool) (scroll : Option Position) →
      scroll ≡ (if asked then scroll_between (point_in doc.view) (point_in made.view) else None) → scroll ≡ scroll_if asked plain next
  scroll-told asked scroll is =
      is ∙ ap₂ (λ (v w : View). if asked then scroll_between (point_in v) (point_in w) else None) stands.view untold.view

  view-told : settled_view doc.view made.view request (pristine_to doc made) ≡ (settled request plain next).view
  view-told =
      ap₂ (λ (v w : View). settled_view v w request (pristine_to doc made)) stands.view untold.view ∙
      ap (settled_view plain.view next.view request) pristine-is

  pub IsUncollected-told : (final : Doc) → final ≡ record made { view = settled_view doc.view made.view request (pristine_to doc made) } →
      IsUncollected final (settled request plain next)
  IsUncollected-told final is =
      subst (λ d. IsUncollected d (settled request plain next)) (sym (is ∙ ap (λ (v : View). record made { view = v }) view-told)) (record {
        text = untold.text;
        view = refl;
        of_head = part-settled (λ (v : View). v.text) plain.view next.view request (pristine_from plain next) refl ∙ untold.of_head;
        regions_are = AreRegionsOf-settled plain.view next.view request (pristine_from plain next) untold.regions_are;
        screen = IsLastTold-settled plain next request untold.shown untold.screen_stays;
      })

-- ---- a collection

pub DocStandsFor-collected : (doc : Doc) (plain : Document) (text : TextState) (made : Doc) → IsUncollected doc plain →
    TextStandsFor text (collected_text plain.text) → made ≡ record doc { text = text } → DocStandsFor made (collected_document plain)
DocStandsFor-collected doc plain text made stands collected is =
    subst (λ d. DocStandsFor d (collected_document plain)) (sym is) (record {
      text = collected;
      view = stands.view;
      of_head = stands.of_head ∙ sym (part-collected head_text plain.text (λ found. refl));
      regions_are = stands.regions_are;
      screen = stands.screen;
    })
