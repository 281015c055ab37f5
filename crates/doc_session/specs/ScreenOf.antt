-- What a front end's screen shows of a layout.
use Rattle.std.specs.Prelude.{◌≡◌, ℕ, true, false, ◌||◌, List, length, Some, slice_get, option_map}
use Rattle.plain_text.specs.declared.run.Run.{Run}
use Rattle.plain_screen.specs.declared.screen.Line.{Line}
use Rattle.plain_screen.specs.Screen.{Screen}
use Rattle.plain_screen.specs.Plan.{is_within}
use Rattle.doc_session.specs.declared.event.Event.{Event}
use Rattle.doc_session.specs.Document.{Document, layout_of, no_request}
use Rattle.doc_session.specs.Step.{event_step, requested_by, tells}

-- the screen has as many lines as the layout, each valid line of it is the layout's line, and each line of the window and each that is
-- requested is valid
pub record IsScreenOf (screen : Screen) (window request : Run) (lines : List Line) : Type 0 where
  pub length : length screen ≡ length lines
  pub equal : (i : ℕ) (line : Line) → slice_get screen i ≡ Some (Some line) → slice_get lines i ≡ Some line
  pub valid : (i : ℕ) → (is_within window i || is_within request i) ≡ true → slice_get screen i ≡ option_map Some (slice_get lines i)

-- the screen that the front end has of the document shows its layout, these lines too
abbrev pub IsUpToDate : Run → Document → Type 0
IsUpToDate request document = IsScreenOf document.screen document.view.window request (layout_of document)

-- after an event it does, and the lines that the event requests; where the front end is told nothing, if it did before
abbrev pub IsShownAfter : Document → Event → Type 0
IsShownAfter document event =
    (tells event ≡ false → IsUpToDate no_request document) → IsUpToDate (requested_by event) (event_step document event).document
