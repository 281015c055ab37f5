-- What the lines of notes and responses say to a front end.
use Rattle.std.proofs.Common.{◌≡◌, ◌≢◌, ℕ, ◌+◌, ◌≤◌, ℤ, List, Bool, true, false, cond, Some, None, option_and_then, option_map, codes, refl, sym, ap, ◌∙◌, arith}
use Rattle.std.specs.Str.{all_scalars, bytes_eq}
use Rattle.std.proofs.lemmas.Bool.{false≢true}
use Rattle.std.proofs.lemmas.Slice.Eq.{bytes_eq-Decides}
use Rattle.xi_plain.specs.declared.command.Id.{Id}
use Rattle.plain_edits.specs.declared.style.Style.{Style}
use Rattle.plain_screen.specs.declared.screen.Update.{Update}
use Rattle.serde_json.specs.Data.{Data, object, no_members}
use Rattle.json_rpc.specs.Line.{line_of, IsLineOf}
use Rattle.json_rpc.specs.Request.{request_of, no_request, or_refusal, value_request, line_request}
use Rattle.json_rpc.specs.Response.{note_data, reply_data, error_data}
use Rattle.json_rpc.proofs.ForCallers.{IsLineOf-line_of}
use Rattle.json_rpc.proofs.ForCallers.{line_request-note}
use Rattle.view_update.specs.Written.{update_params, update_data}
use Rattle.view_update.specs.Reading.{as_chars, member_as, note_params, read_params, read_scroll, read_style, line_update, line_scroll, line_alert, line_style}
use Rattle.view_update.specs.Fair.{IsFairUpdate}
use Rattle.view_update.specs.Notes.{scroll_params, scroll_data, alert_params, alert_data, style_params, style_data}
use Rattle.view_update.specs.Laws.{UpdatesReadBack, UpdatesAreRead, ScrollsReadBack, AlertsReadBack, StylesReadBack, OthersAreNoUpdates}
use Rattle.view_update.proofs.Plain.{ArePlain-none, IsPlain, IsPlain-object, IsPlain-update_params, IsPlain-scroll_params, IsPlain-alert_params, IsPlain-style_params, IsPlain-note_data}
use Rattle.view_update.proofs.ReadBack.{as_chars-text_data, read_params-update_params, read_scroll-scroll_params, read_style-style_params}

-- the line of a value that nests at most 127 deep
IsLineOf-plain : (d : Data) (n : ℕ) → n ≤ 127 → IsPlain n d → IsLineOf d (line_of d)
IsLineOf-plain d n small h = IsLineOf-line_of d h.proper h.whole (omega (arith, h.shallow))

-- the line of a note whose params nest at most 126 deep
IsLineOf-note : (method : List ℕ) (params : Data) (n : ℕ) → n ≤ 126 → all_scalars method ≡ true → IsPlain n params → IsLineOf (note_data method params) (line_of (note_data method params))
IsLineOf-note method params n small name h = IsLineOf-plain (note_data method params) (n + 1) (omega arith) (IsPlain-note_data n method params name h)

-- the note of a method without members in its params is one
pub IsLineOf-empty_note : IsLineOf (note_data (codes "update") (object no_members)) (line_of (note_data (codes "update") (object no_members)))
IsLineOf-empty_note = IsLineOf-note (codes "update") (object no_members) 1 (omega arith) refl (IsPlain-object 0 no_members (ArePlain-none 0))

-- ---- a note says what its params say

bytes_eq-same : (xs : List ℕ) → bytes_eq xs xs ≡ true
bytes_eq-same xs = (bytes_eq-Decides xs xs).1 refl

note_params-note : (method : List ℕ) (params : Data) (line : List ℕ) → IsLineOf (note_data method params) line → all_scalars method ≡ true
    → note_params method (line_request line) ≡ Some params
note_params-note method params line is name =
    ap (note_params method) (line_request-note method params line is name)
    ∙ ap (λ b. cond b (Some params) None) (bytes_eq-same method)

pub updates_are_read : UpdatesAreRead
unfolding line_update
updates_are_read params line is = ap (option_map read_params) (note_params-note (codes "update") params line is refl)

pub line_update-update_data : (view : List ℕ) (update : Update) (line : List ℕ) → IsLineOf (update_data view update) line → IsFairUpdate view update
    → line_update line ≡ Some (Some (record { view = view; update = update }))
line_update-update_data view update line is h =
    updates_are_read (update_params view update) line is ∙ ap Some (read_params-update_params view update h)

pub line_scroll-scroll_data : (view : List ℕ) (at col : ℕ) (line : List ℕ) → IsLineOf (scroll_data view at col) line → all_scalars view ≡ true
    → line_scroll line ≡ Some (record { view = view; line = at; col = col })
unfolding line_scroll
line_scroll-scroll_data view at col line is h =
    ap (option_and_then read_scroll) (note_params-note (codes "scroll_to") (scroll_params view at col) line is refl) ∙ read_scroll-scroll_params view at col h

pub line_alert-alert_data : (message line : List ℕ) → IsLineOf (alert_data message) line → all_scalars message ≡ true → line_alert line ≡ Some message
unfolding line_alert
line_alert-alert_data message line is h =
    ap (option_and_then (member_as as_chars (codes "msg"))) (note_params-note (codes "alert") (alert_params message) line is refl) ∙ as_chars-text_data message h

pub line_style-style_data : (id : ℕ) (style : Style) (line : List ℕ) → IsLineOf (style_data id style) line
    → line_style line ≡ Some (record { id = id; style = style })
unfolding line_style
line_style-style_data id style line is =
    ap (option_and_then read_style) (note_params-note (codes "def_style") (style_params id style) line is refl) ∙ read_style-style_params id style

-- ---- the line of each note

pub updates_read_back : UpdatesReadBack
updates_read_back view update h =
    let is : IsLineOf (update_data view update) (line_of (update_data view update)) = IsLineOf-note (codes "update") _ 7 (omega arith) refl (IsPlain-update_params view update h) in
    record {
      line = is;
      shallow = (IsPlain-note_data 7 (codes "update") _ refl (IsPlain-update_params view update h)).shallow;
      reads_back = line_update-update_data view update _ is h;
    }

pub scrolls_read_back : ScrollsReadBack
scrolls_read_back view at col h k m =
    let is : IsLineOf (scroll_data view at col) (line_of (scroll_data view at col)) = IsLineOf-note (codes "scroll_to") _ 1 (omega arith) refl (IsPlain-scroll_params view at col h k m) in
    (is, line_scroll-scroll_data view at col _ is h)

pub alerts_read_back : AlertsReadBack
alerts_read_back message h =
    let is : IsLineOf (alert_data message) (line_of (alert_data message)) = IsLineOf-note (codes "alert") _ 1 (omega arith) refl (IsPlain-alert_params message h) in
    (is, line_alert-alert_data message _ is h)

pub styles_read_back : StylesReadBack
styles_read_back id style h k =
    let is : IsLineOf (style_data id style) (line_of (style_data id style)) = IsLineOf-note (codes "def_style") _ 1 (omega arith) refl (IsPlain-style_params id style h k) in
    (is, line_style-style_data id style _ is)

-- ---- no other line is an update

other_method : (b : Bool) (xs ys : List ℕ) → bytes_eq xs ys ≡ b → xs ≢ ys → b ≡ false
other_method true xs ys e apart = absurd (apart ((bytes_eq-Decides xs ys).0 e))
other_method false xs ys e apart = refl

-- a note of another method is no update
pub line_update-other : (method : List ℕ) (params : Data) (line : List ℕ) → IsLineOf (note_data method params) line → all_scalars method ≡ true → method ≢ codes "update"
    → line_update line ≡ None
unfolding line_update
line_update-other method params line is name apart =
    ap (λ r. option_map read_params (note_params (codes "update") r)) (line_request-note method params line is name)
    ∙ ap (λ b. option_map read_params (cond b (Some params) None)) (other_method _ method (codes "update") refl apart)

-- a value that is no request is no update
asks_nothing : (d : Data) (line : List ℕ) → IsLineOf d line → request_of d ≡ None → line_update line ≡ None
unfolding line_update line_request
asks_nothing d line is none =
    ap (λ o. option_map read_params (note_params (codes "update") (value_request o))) is.reads
    ∙ ap (λ o. option_map read_params (note_params (codes "update") (or_refusal no_request o))) none

pub line_update-reply : (id : Id) (d : Data) (line : List ℕ) → IsLineOf (reply_data id d) line → line_update line ≡ None
unfolding request_of
line_update-reply id d line is = asks_nothing (reply_data id d) line is refl

pub line_update-error : (id : Id) (code : ℤ) (message line : List ℕ) → IsLineOf (error_data id code message) line → line_update line ≡ None
unfolding request_of
line_update-error id code message line is = asks_nothing (error_data id code message) line is refl

method≢update : (method : List ℕ) → bytes_eq method (codes "update") ≡ false → method ≢ codes "update"
method≢update method other same = false≢true (sym other ∙ (bytes_eq-Decides method (codes "update")).1 same)

pub others_are_no_updates : OthersAreNoUpdates
others_are_no_updates = record {
  reply = line_update-reply;
  error = line_update-error;
  note = line_update-other;
  scroll = λ view at col line is. line_update-other (codes "scroll_to") (scroll_params view at col) line is refl (method≢update (codes "scroll_to") refl);
  alert = λ message line is. line_update-other (codes "alert") (alert_params message) line is refl (method≢update (codes "alert") refl);
  style = λ id style line is. line_update-other (codes "def_style") (style_params id style) line is refl (method≢update (codes "def_style") refl);
}
