-- Worked rows: what lines of plugins come to in small sessions, computed by the checker.
use Rattle.std.specs.Prelude.{◌≡◌, ℕ, pos, true, false, List, [], ◌∷◌, codes, map, negsuc, replicate, Option, Some, None}
use Rattle.std.specs.List.{flat_map, fold}
use Rattle.serde_json.specs.Data.{null}
use Rattle.plain_edits.specs.Edits.{collected, misfit, unknown}
use Rattle.plain_edits.specs.declared.delta.El.{El}
use Rattle.plain_edits.specs.declared.delta.El.TheVariants.{Copy, Insert as Put}
use Rattle.plain_edits.specs.declared.style.Style.{Style}
use Rattle.plain_screen.specs.declared.screen.Line.{Line}
use Rattle.plain_screen.specs.declared.screen.Triple.{Triple}
use Rattle.xi_plain.specs.declared.command.Act.{Act}
use Rattle.xi_plain.specs.declared.command.Act.TheVariants.{Ack, Alert, Bad, Ended, GetData, LineCount, PluginEdit, UpdateSpans}
use Rattle.xi_plain.specs.declared.command.EditAct.TheVariants.{Insert, InsertNewline}
use Rattle.xi_plain.specs.declared.command.Fault.TheVariants.{BadParams, NoMethod}
use Rattle.xi_plain.specs.declared.command.Id.TheVariants.{NoId, Num, Word}
use Rattle.xi_plain.specs.declared.span.WireSpan.{WireSpan}
use Rattle.json_rpc.specs.Response.{error_data, reply_data}
use Rattle.view_update.specs.Notes.{alert_data}
use Rattle.view_update.specs.declared.note.ViewUpdate.{ViewUpdate}
use Rattle.plugin_wire.specs.Told.{changed, whole_data}
use Rattle.entry_lines.specs.PluginAnswer.{Verdict, chunk_data, edited_data, faults, gives, plugin_answer, refuses}
use Rattle.doc_session.specs.Document.{Document, layout_of, loaded_document}
use Rattle.doc_session.specs.Step.{event_step}
use Rattle.doc_session.specs.declared.event.Event.{Event}
use Rattle.doc_session.specs.declared.event.Event.TheVariants.{Front, Other}
use Rattle.session_step.specs.PluginStep.{PluginOutcome, plugin_messages, plugin_outcome, plugin_refusal, styles_after}
use Rattle.session_step.specs.Session.{OpenView, first_config}

-- ---- a session

-- one view on this text, with two plugins, and a thousand characters that may be inserted, after events of the front end
abbrev pub view_id : List ℕ
view_id = codes "view-id-1"

abbrev pub document_after : List ℕ → List Event → Document
document_after text events =
    fold (λ document event. (event_step document event).document) (loaded_document text 2 1000 first_config) (Other ∷ events)

abbrev pub views_after : List ℕ → List Event → List OpenView
views_after text events = record { id = view_id; document = document_after text events } ∷ []

-- the views and the styles of a session as plugins change them, one act after the other, each by its caller
pub record State : Type 0 where
  pub views : List OpenView
  pub styles : List Style

abbrev pub next_state : State → (ℕ × Act) → State
next_state state asked = record {
  views = (plugin_outcome state.views state.styles asked.0 asked.1).views;
  styles = styles_after state.styles asked.1;
}

abbrev pub refusal_in : State → ℕ → Act → Option Verdict
refusal_in state caller act = plugin_refusal state.views state.styles caller act

abbrev pub outcome_in : State → ℕ → Act → PluginOutcome
outcome_in state caller act = plugin_outcome state.views state.styles caller act

abbrev pub state_after : List ℕ → List Event → List (ℕ × Act) → State
state_after text events acts = fold next_state (record { views = views_after text events; styles = [] }) acts

-- an empty text
abbrev pub empty : State
empty = state_after [] [] []

-- ---- what is asked

abbrev pub edits : ℕ → ℕ → List El → Act
edits rev len els = PluginEdit view_id rev (record { els = els; base_len = len }) 1 false (codes "p") None

abbrev pub bold : Style
bold = record { fg_color = None; bg_color = None; weight = Some 700; italic = None; underline = None }

abbrev pub slanted : Style
slanted = record { fg_color = None; bg_color = None; weight = None; italic = Some true; underline = None }

abbrev pub span : ℕ → ℕ → Style → WireSpan
span start end style = record { start = start; end = end; style = style }

-- ---- refusals

-- why lines are refused
pub record Refusals : Type 0 where
  pub misfits : refusal_in empty 1 (edits 0 0 (Copy 0 1 ∷ [])) ≡ Some (refuses (misfit (record { kind = 3; at = 1 })))
  pub unknown : refusal_in empty 1 (edits 7 0 []) ≡ Some (refuses (unknown 0))
  pub view : refusal_in empty 1 (LineCount (codes "view-id-2")) ≡ Some (faults (BadParams (codes "view_id")))
  pub start : refusal_in empty 1 (GetData view_id 0 1 9) ≡ Some (faults (BadParams (codes "start")))
  pub line : refusal_in empty 1 (Bad (NoMethod (codes "insert"))) ≡ Some (faults (NoMethod (codes "insert")))
  pub no_id : plugin_answer NoId (faults (BadParams (codes "view_id"))) ≡
      Some (error_data NoId (negsuc 32601) (codes "invalid params: view_id"))
  pub text : plugin_answer (Num (pos 1)) (refuses (misfit (record { kind = 3; at = 1 }))) ≡
      Some (error_data (Num (pos 1)) (pos 6) (codes "misfit 3 at 1"))

-- ---- answers

-- what lines are answered, and the front end by them
pub record Answers : Type 0 where
  pub edited : (outcome_in empty 1 (edits 0 0 [])).verdict ≡ gives (edited_data 1 1)
  pub updated : map (λ (told : ViewUpdate). told.update.pristine) (outcome_in empty 1 (edits 0 0 [])).updates ≡ false ∷ []
  pub counted : plugin_answer (Word (codes "x")) (outcome_in empty 1 (LineCount view_id)).verdict ≡ Some (reply_data (Word (codes "x")) (whole_data 1))
  pub silent : plugin_answer NoId (outcome_in empty 1 (LineCount view_id)).verdict ≡ None
  pub read : (outcome_in empty 1 (GetData view_id 0 0 0)).verdict ≡ gives (chunk_data [] 0)
  pub alerted : plugin_messages (Num (pos 1)) (outcome_in empty 1 (Alert (codes "hi"))) ≡ alert_data (codes "hi") ∷ []
  pub told : (outcome_in empty 1 (Alert (codes "hi"))).verdict ≡ gives null

-- ---- styles

-- `abcd` is typed, and a plugin puts `X` at its front
abbrev pub word : State
word = state_after [] (Front (Insert (codes "abcd")) ∷ []) ((2, edits 1 4 (Put (codes "X") ∷ Copy 0 4 ∷ [])) ∷ [])

-- `bc` of the text before that is bold; then `X` is, and an empty span is slanted
abbrev pub first_spans : Act
first_spans = UpdateSpans view_id 1 0 4 (span 1 3 bold ∷ [])

abbrev pub second_spans : Act
second_spans = UpdateSpans view_id 2 0 5 (span 0 1 bold ∷ span 0 0 slanted ∷ [])

abbrev pub styled : State
styled = next_state word (1, first_spans)

-- the lines of all views, and their styles
abbrev pub lines_in : State → List Line
lines_in state = flat_map (λ (view : OpenView). layout_of view.document) state.views

abbrev pub shown_in : State → List (List Triple)
shown_in state = map (λ (line : Line). line.styles) (lines_in state)

-- a style gets its number at its first use, and the lines show it; the second plugin's is another, and a range that is no part of the text is refused
pub record Styled : Type 0 where
  pub first : (outcome_in word 1 first_spans).styles ≡ record { id = 2; style = bold } ∷ []
  pub shown : shown_in styled ≡ (record { start = pos 2; len = 2; id = 2 } ∷ []) ∷ []
  pub second : (outcome_in styled 2 second_spans).styles ≡ record { id = 3; style = slanted } ∷ []
  pub both : shown_in (next_state styled (2, second_spans)) ≡
      (record { start = pos 0; len = 1; id = 2 } ∷ record { start = pos 1; len = 2; id = 2 } ∷ []) ∷ []
  -- what is used a second time is not told again
  pub again : (outcome_in styled 2 first_spans).styles ≡ []
  pub start : refusal_in styled 2 (UpdateSpans view_id 2 6 0 []) ≡ Some (faults (BadParams (codes "start")))
  pub len : refusal_in styled 2 (UpdateSpans view_id 2 1 9 []) ≡ Some (faults (BadParams (codes "len")))

-- ---- an edit against an old revision

-- `a` is typed before `c`, and `X` between the two, in an undo group of its own
abbrev pub typed : State
typed = state_after (codes "c") (Front (Insert (codes "a")) ∷ Other ∷ Front (Insert (codes "X")) ∷ []) []

-- a plugin puts `Y` at the end of `ac`
abbrev pub puts_y : Act
puts_y = edits 1 2 (Copy 0 2 ∷ Put (codes "Y") ∷ [])

-- the edit stands right of what came since at its place, and its author alone is told its revision and group; all are told the change
pub record StaleEdit : Type 0 where
  pub edited : (outcome_in typed 1 puts_y).verdict ≡ gives (edited_data 3 3)
  pub shown : map (λ (line : Line). line.text) (lines_in (next_state typed (1, puts_y))) ≡ codes "aXcY" ∷ []
  pub cursor : map (λ (line : Line). line.cursor) (lines_in (next_state typed (1, puts_y))) ≡ (2 ∷ []) ∷ []
  pub news : (outcome_in typed 1 puts_y).news ≡ changed (record {
    view = view_id;
    author = 1;
    rev = 3;
    new_len = 4;
    delta = record { els = Copy 0 3 ∷ Put (codes "Y") ∷ []; base_len = 3 };
  }) ∷ []

-- ---- old groups

-- twenty-one new lines, and the second plugin's session is over
abbrev pub lagging : State
lagging = state_after [] (replicate 21 (Front InsertNewline)) ((2, Ended) ∷ [])

abbrev pub caught_up : State
caught_up = next_state lagging (1, Ack view_id 21)

-- before the first plugin acknowledges, the first revision is still there; afterwards, or once its session is over, it is collected
pub record Collected : Type 0 where
  pub waits : refusal_in lagging 1 (edits 0 0 []) ≡ None
  pub below : refusal_in caught_up 1 (edits 0 0 []) ≡ Some (refuses (collected 21))
  pub above : refusal_in caught_up 1 (edits 22 0 []) ≡ Some (refuses (unknown 21))
  pub reading : refusal_in caught_up 1 (GetData view_id 20 0 1) ≡ Some (refuses (collected 21))
  pub acknowledging : refusal_in caught_up 1 (Ack view_id 20) ≡ Some (refuses (collected 21))
  -- the same once its session is over, of which nothing is told
  pub over : refusal_in (next_state lagging (1, Ended)) 1 (edits 0 0 []) ≡ Some (refuses (collected 21))
  pub untold : (outcome_in lagging 1 Ended).news ≡ []
