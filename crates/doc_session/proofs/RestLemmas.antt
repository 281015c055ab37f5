-- A document that rests: an event that is no command of it changes nothing.
use Rattle.std.proofs.Common.{◌≡◌, Bool, true, false, Option, Some, None, refl, ap, ap₂, sym, ◌∙◌, subst}
use Rattle.std.specs.Prelude.{if◌then◌else◌, not, ◌||◌, IsTrue}
use Rattle.std.specs.Option.{is_some}
use Rattle.std.proofs.lemmas.Bool.{and_parts}
use Rattle.plain_screen.specs.SameLayout.{is_same_layout}
use Rattle.plain_screen.proofs.callers.SameLemmas.{is_same_layout-Decides}
use Rattle.edit_groups.specs.declared.typing.Typing.{Typing}
use Rattle.edit_groups.specs.Typing.{run_on}
use Rattle.plain_screen.specs.declared.screen.Update.{Update}
use Rattle.doc_text.specs.Collecting.{with_collection}
use Rattle.doc_text.proofs.ForCallers.{nothing_after}
use Rattle.doc_view.specs.Told.{differ, has_asked, is_lacking}
use Rattle.doc_view.specs.View.{View, asked_in, layout_in}
use Rattle.doc_layout.specs.Told.{planned}
use Rattle.doc_session.specs.declared.event.Body.TheVariants.{Null}
use Rattle.doc_session.specs.declared.event.Event.TheVariants.{Other}
use Rattle.doc_session.specs.Document.{Document, no_request}
use Rattle.doc_session.specs.Effects.{pristine_from, screen_told}
use Rattle.doc_session.specs.InMemory.{Doc, is_resting}
use Rattle.doc_session.specs.Stands.{DocStandsFor}
use Rattle.doc_session.specs.Step.{EventStep, collected_document, event_step, silent_step, step_to}

none-open : (typing : Option Typing) → not (is_some typing) ≡ true → run_on typing None ≡ typing
none-open None none = refl
none-open (Some run) none = absurd cc

not-true : (b : Bool) → not b ≡ true → b ≡ false
not-true false is = refl
not-true true is = absurd cc

same-no : (b : Bool) → differ b b ≡ false
same-no true = refl
same-no false = refl

-- nothing is lacking from a view to itself, where its front end has what is asked for
lacks-nothing : (plain : Document) → has_asked plain.view no_request ≡ true →
    is_lacking plain.view plain.view no_request (pristine_from plain plain) ≡ false
lacks-nothing plain has =
    ap₂ (λ (a b : Bool). not a || (b || not (is_same_layout (layout_in plain.view) (layout_in plain.view)))) has
    (same-no (pristine_from plain plain).before) ∙
    ap not ((is_same_layout-Decides (layout_in plain.view) (layout_in plain.view)).1 refl)

-- so nobody is told anything, and what may be collected was collected
module _ (plain : Document) (has : has_asked plain.view no_request ≡ true) where
  abbrev step_by : Bool → Option Update → EventStep
  step_by b update = record {
    document = record plain {
      view = if b then record plain.view { shown = Some (asked_in plain.view no_request) } else plain.view;
      screen = screen_told update plain.screen;
    };
    body = Null;
    update = update;
    scroll = None;
    notice = None;
  }

  still : step_to no_request plain plain Null None None ≡ silent_step plain
  still =
      ap (λ (b : Bool). step_by b (if b then Some (planned (asked_in plain.view no_request) (layout_in plain.view) (pristine_from plain plain).after) else None))
      (lacks-nothing plain has)

pub rests-still : (doc : Doc) (plain : Document) → DocStandsFor doc plain → is_resting doc ≡ true → event_step plain Other ≡ silent_step plain
rests-still doc plain stands rests =
    ap (λ (d : Document). collected (step_to no_request plain d Null None None)) same ∙ ap collected (still plain has) ∙
    ap (λ found. silent_step (record plain { text = with_collection plain.text found })) (nothing_after plain.text stands.text.none_left)
  where
    collected : EventStep → EventStep
    collected step = record step { document = collected_document step.document }

    parts : (not (is_some doc.text.typing) ≡ true) × (has_asked doc.view no_request ≡ true)
    parts = and_parts (not (is_some doc.text.typing)) (has_asked doc.view no_request) rests

    has : has_asked plain.view no_request ≡ true
    has = subst (λ (v : View). has_asked v no_request ≡ true) stands.view parts.1

    same : record plain { text = record plain.text { typing = run_on plain.text.typing None } } ≡ plain
    same =
        ap (λ typing. record plain { text = record plain.text { typing = typing } })
        (none-open plain.text.typing (subst (λ (t : Option Typing). not (is_some t) ≡ true) stands.text.parts.typing parts.0))

-- so it is where the document says that it rests
pub rests-told : (doc : Doc) (b : Bool) → b ≡ is_resting doc → IsTrue b → (plain : Document) → DocStandsFor doc plain →
    event_step plain Other ≡ silent_step plain
rests-told doc true is holds plain stands = rests-still doc plain stands (sym is)
rests-told doc false is holds plain stands = absurd (let wrong = holds in cc)
