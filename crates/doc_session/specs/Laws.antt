-- Laws: what the definitions of a document come to, whatever the document.
use Rattle.std.specs.Prelude.{◌≡◌, ◌↔◌, ℕ, true, Option, Some, None, IfSome, ⊤}
use Rattle.plain_text.specs.declared.run.Run.{Run}
use Rattle.xi_plain.specs.declared.command.EditAct.{EditAct}
use Rattle.plain_edits.specs.Delta.{Fits, keeps, adds, applied}
use Rattle.plain_edits.specs.Edits.{unknown, collected, misfit, spent}
use Rattle.plain_screen.specs.Screen.{screen_after}
use Rattle.plain_screen.specs.Plan.{shown_lines}
use Rattle.edit_ops.specs.Replacements.{text_with}
use Rattle.doc_session.specs.Asking.{front_edit}
use Rattle.doc_session.specs.Document.{Document, layout_of}
use Rattle.doc_session.specs.Effects.{settled, update_after}
use Rattle.doc_session.specs.InMemory.{Doc}
use Rattle.doc_text.specs.Refusal.{DocRefusal, of_edit, of_range}
use Rattle.doc_text.specs.Writing.{head_text}
use Rattle.doc_session.specs.ScreenOf.{IsScreenOf, IsUpToDate}
use Rattle.doc_session.specs.Stands.{DocStandsFor, IsLastTold}
use Rattle.doc_view.specs.Told.{has_asked}
use Rattle.doc_session.specs.Step.{effect_on, refusal_at}
use Rattle.doc_session.specs.declared.event.Event.TheVariants.{Front}

-- a screen that shows the lines of the window and of a request is a screen of the layout
abbrev pub ScreensShow : Type 0
ScreensShow = (plain : Document) (request : Run) → plain.screen ≡ shown_lines plain.view.window request (layout_of plain) →
    IsScreenOf plain.screen plain.view.window request (layout_of plain)

-- the update of a document, where there is one, makes its screen, on whatever screen there was
abbrev pub UpdatesShow : Type 0
UpdatesShow = (before after : Document) (request : Run) →
    IfSome (update_after request before after) (λ update.
    screen_after before.screen update.ops ≡ Some ((settled request before after).screen))

-- a view says of its front end what is so on the screen: it has the lines that are asked for exactly where the screen shows the layout, with
-- each line of the window and of the request
abbrev pub LinesAreHad : Type 0
LinesAreHad = (plain : Document) (request : Run) → IsLastTold plain → (has_asked plain.view request ≡ true) ↔ IsUpToDate request plain

-- the delta of a command of the front end fits the head text, and leads to the text after the command's replacements
abbrev pub CommandsPut : Type 0
CommandsPut = (plain : Document) (act : EditAct) (joined : Option ℕ) →
    let text = head_text plain.text in
    let replacements = (effect_on plain act).replacements in
    let delta = (front_edit plain joined replacements).delta in
    Fits text delta × (applied (keeps text delta) (adds text delta) text ≡ text_with replacements text)

-- the refusal, if there is one, is that the characters are spent
abbrev pub IsSpentIfAny : Option DocRefusal → Type 0
IsSpentIfAny None = ⊤
IsSpentIfAny (Some (of_edit (unknown head))) = ⊥
IsSpentIfAny (Some (of_edit (collected floor))) = ⊥
IsSpentIfAny (Some (of_edit (misfit first))) = ⊥
IsSpentIfAny (Some (of_edit (spent total))) = ⊤
IsSpentIfAny (Some (of_range member)) = ⊥

-- a command of the front end is refused only where its characters are spent: it is against the head, and its delta fits
abbrev pub CommandsFit : Type 0
CommandsFit = (doc : Doc) (plain : Document) (act : EditAct) → DocStandsFor doc plain → IsSpentIfAny (refusal_at plain (Front act))
