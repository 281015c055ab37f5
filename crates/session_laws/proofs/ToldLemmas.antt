-- What the shelf's answer to an entry is told as.
use Rattle.std.proofs.Common.{◌≡◌, ℕ, Bool, true, false, List, Option, Some, None, refl}
use Rattle.std.specs.Prelude.{◌↔◌, if◌then◌else◌}
use Rattle.std.specs.Str.{chars, is_utf8}
use Rattle.xi_plain.specs.declared.command.Act.{Act}
use Rattle.xi_plain.specs.declared.command.Act.TheVariants.{Bad, Nothing, Configure, NewView, CloseView, Save, Edit, Closing}
use Rattle.xi_plain.specs.declared.command.EditAct.{EditAct}
use Rattle.xi_plain.specs.declared.entry.ShelfNote.{ShelfNote}
use Rattle.xi_plain.specs.declared.entry.ShelfNote.TheVariants.{Absent, Done, Failed, Held, NoCall}
use Rattle.xi_plain.specs.Journal.{is_no_call, may_have_note}
use Rattle.entry_lines.specs.Answer.{Reply, not_text, shelf_failed}
use Rattle.session_step.specs.declared.given.Given.TheVariants as given
use Rattle.session_step.specs.Session.{OpenView, Session, close_outcome, edit_came, edit_outcome, file_outcome, given_by, named_view, outcome, save_outcome}
use Rattle.doc_session.specs.Step.{EventStep, event_step, refusal_at}
use Rattle.doc_session.specs.declared.event.Event.TheVariants.{Front}
use Rattle.session_step.specs.Session.{spent_total}
use Rattle.core_session.specs.Shelves.{asks_as, is_saving_of}
use Rattle.session_laws.specs.Laws.{HoldsNoText, NoTextIsTold, ShelfFailureIsTold}

-- neither of the shelf's two refusals
record IsOther (reply : Reply) : Type 0 where
  failed : reply ≡ shelf_failed → ⊥
  no_text : reply ≡ not_text → ⊥

-- what is told of a note
record IsTold (reply : Reply) (note : ShelfNote) : Type 0 where
  failed : (reply ≡ shelf_failed) ↔ (note ≡ Failed)
  no_text : (reply ≡ not_text) ↔ HoldsNoText note

-- the shelf was not asked
told_none : (reply : Reply) (note : ShelfNote) → is_no_call note ≡ true → IsOther reply → IsTold reply note
told_none reply NoCall none other = record {
  failed = ((λ is. absurd (other.failed is)), λ is. absurd cc);
  no_text = ((λ is. absurd (other.no_text is)), λ is. absurd is);
}
told_none reply (Held bytes) none other = absurd cc
told_none reply Absent none other = absurd cc
told_none reply Failed none other = absurd cc
told_none reply Done none other = absurd cc

closing_other : (views : List OpenView) (named : Option OpenView) → IsOther (close_outcome views named).reply
closing_other views None = record { failed = λ is. cc; no_text = λ is. cc }
closing_other views (Some view) = record { failed = λ is. cc; no_text = λ is. cc }

came_other : (views : List OpenView) (view : OpenView) (total : Option ℕ) (step : EventStep) → IsOther (edit_came views view total step).reply
came_other views view None step = record { failed = λ is. cc; no_text = λ is. cc }
came_other views view (Some total) step = record { failed = λ is. cc; no_text = λ is. cc }

editing_other : (views : List OpenView) (named : Option OpenView) (act : EditAct) → IsOther (edit_outcome views named act).reply
editing_other views None act = record { failed = λ is. cc; no_text = λ is. cc }
editing_other views (Some view) act =
    came_other views view (spent_total (refusal_at view.document (Front act))) (event_step view.document (Front act))

-- a saving
saving_told : (views : List OpenView) (named : Option OpenView) (note : ShelfNote) (view path : List ℕ) → may_have_note (Save view path) note ≡ true →
    is_saving_of named note ≡ true → IsTold (save_outcome views named (given_by note)).reply note
saving_told views None note view path kind asked = told_none _ note asked (record { failed = λ is. cc; no_text = λ is. cc })
saving_told views (Some open_view) NoCall view path kind asked = absurd cc
saving_told views (Some open_view) (Held bytes) view path kind asked = absurd cc
saving_told views (Some open_view) Absent view path kind asked = absurd cc
saving_told views (Some open_view) Failed view path kind asked =
    record { failed = ((λ is. refl), λ is. refl); no_text = ((λ is. cc), λ is. absurd is) }
saving_told views (Some open_view) Done view path kind asked =
    record { failed = ((λ is. cc), λ is. cc); no_text = ((λ is. cc), λ is. absurd is) }

-- the opening of a file
held_told : (session : Session) (bytes : List ℕ) (is_text : Bool) → is_utf8 bytes ≡ is_text →
    IsTold (file_outcome session.terms session.ended session.config session.opened session.views (if is_text then given.Found (chars bytes) else given.NotText)).reply (Held bytes)
held_told session bytes true is = record { failed = ((λ told. cc), λ told. cc); no_text = ((λ told. cc), λ none. cc) }
held_told session bytes false is = record { failed = ((λ told. cc), λ told. cc); no_text = ((λ told. is), λ none. refl) }

opening_told : (session : Session) (note : ShelfNote) (path : List ℕ) → may_have_note (NewView (Some path)) note ≡ true →
    IsTold (file_outcome session.terms session.ended session.config session.opened session.views (given_by note)).reply note
opening_told session NoCall path kind = absurd cc
opening_told session Done path kind = absurd cc
opening_told session Absent path kind = record { failed = ((λ is. cc), λ is. cc); no_text = ((λ is. cc), λ is. absurd is) }
opening_told session Failed path kind = record { failed = ((λ is. refl), λ is. refl); no_text = ((λ is. cc), λ is. absurd is) }
opening_told session (Held bytes) path kind = held_told session bytes (is_utf8 bytes) refl

told : (session : Session) (act : Act) (note : ShelfNote) → may_have_note act note ≡ true → asks_as session.views act note ≡ true →
    IsTold (outcome session act (given_by note)).reply note
told session (Bad fault) note kind asked = told_none _ note kind (record { failed = λ is. cc; no_text = λ is. cc })
told session Nothing note kind asked = told_none _ note kind (record { failed = λ is. cc; no_text = λ is. cc })
told session (Configure changes) note kind asked = told_none _ note kind (record { failed = λ is. cc; no_text = λ is. cc })
told session (NewView None) note kind asked = told_none _ note kind (record { failed = λ is. cc; no_text = λ is. cc })
told session (NewView (Some path)) note kind asked = opening_told session note path kind
told session (CloseView name) note kind asked = told_none _ note kind (closing_other session.views (named_view session.views name))
told session (Save name path) note kind asked = saving_told session.views (named_view session.views name) note name path kind asked
told session (Edit name act) note kind asked = told_none _ note kind (editing_other session.views (named_view session.views name) act)
told session Closing note kind asked = told_none _ note kind (record { failed = λ is. cc; no_text = λ is. cc })
told session act note kind asked = told_none _ note kind (record { failed = λ is. cc; no_text = λ is. cc })

pub shelf_failure_is_told : ShelfFailureIsTold
shelf_failure_is_told session act note kind asked = (told session act note kind asked).failed

pub no_text_is_told : NoTextIsTold
no_text_is_told session act note kind asked = (told session act note kind asked).no_text
