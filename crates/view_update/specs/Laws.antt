-- The laws of written updates, on data alone.
use Rattle.std.specs.Prelude.{◌≡◌, ◌≢◌, ◌≤◌, ℕ, ℤ, List, codes, true, Some, None}
use Rattle.std.specs.Str.{all_scalars}
use Rattle.plain_edits.specs.declared.style.Style.{Style}
use Rattle.xi_plain.specs.declared.command.Id.{Id}
use Rattle.plain_screen.specs.declared.screen.Update.{Update}
use Rattle.serde_json.specs.Data.{Data, depth}
use Rattle.json_rpc.specs.Line.{line_of, IsLineOf}
use Rattle.json_rpc.specs.Response.{reply_data, error_data, note_data}
use Rattle.view_update.specs.Written.{update_data}
use Rattle.view_update.specs.Reading.{read_params, line_update, line_scroll, line_alert, line_style}
use Rattle.view_update.specs.Fair.{IsCount, IsFairStyle, IsFairUpdate}
use Rattle.view_update.specs.Notes.{scroll_data, alert_data, style_data}

-- the line of an update is one line of text, nests 8 deep at most, and says the same update of the same view to a front end
pub record IsTold (view : List ℕ) (update : Update) : Type 0 where
  pub line : IsLineOf (update_data view update) (line_of (update_data view update))
  pub shallow : depth (update_data view update) ≤ 8
  pub reads_back : line_update (line_of (update_data view update)) ≡ Some (Some (record { view = view; update = update }))

-- THE ROUND TRIP: every update whose texts are characters of Unicode and whose numbers are in range is told as it is
abbrev pub UpdatesReadBack : Type 0
UpdatesReadBack = (view : List ℕ) (update : Update) → IsFairUpdate view update → IsTold view update

-- every note `update` is read by its params, and none is passed over
abbrev pub UpdatesAreRead : Type 0
UpdatesAreRead = (params : Data) (line : List ℕ) → IsLineOf (note_data (codes "update") params) line → line_update line ≡ Some (read_params params)

-- a front end reads the place that a note asks it to show
abbrev pub ScrollsReadBack : Type 0
ScrollsReadBack = (view : List ℕ) (line col : ℕ) → all_scalars view ≡ true → IsCount line → IsCount col
    → IsLineOf (scroll_data view line col) (line_of (scroll_data view line col))
    × (line_scroll (line_of (scroll_data view line col)) ≡ Some (record { view = view; line = line; col = col }))

-- a front end reads the message of an alert
abbrev pub AlertsReadBack : Type 0
AlertsReadBack = (message : List ℕ) → all_scalars message ≡ true
    → IsLineOf (alert_data message) (line_of (alert_data message)) × (line_alert (line_of (alert_data message)) ≡ Some message)

-- a front end reads the style that a note defines, with its number
abbrev pub StylesReadBack : Type 0
StylesReadBack = (id : ℕ) (style : Style) → IsCount id → IsFairStyle style
    → IsLineOf (style_data id style) (line_of (style_data id style))
    × (line_style (line_of (style_data id style)) ≡ Some (record { id = id; style = style }))

-- no other line that is written says an update
pub record OthersAreNoUpdates : Type 0 where
  pub reply : (id : Id) (result : Data) (line : List ℕ) → IsLineOf (reply_data id result) line → line_update line ≡ None
  pub error : (id : Id) (code : ℤ) (message line : List ℕ) → IsLineOf (error_data id code message) line → line_update line ≡ None
  pub note : (method : List ℕ) (params : Data) (line : List ℕ) → IsLineOf (note_data method params) line
      → all_scalars method ≡ true → method ≢ codes "update" → line_update line ≡ None
  pub scroll : (view : List ℕ) (at col : ℕ) (line : List ℕ) → IsLineOf (scroll_data view at col) line → line_update line ≡ None
  pub alert : (message line : List ℕ) → IsLineOf (alert_data message) line → line_update line ≡ None
  pub style : (id : ℕ) (style : Style) (line : List ℕ) → IsLineOf (style_data id style) line → line_update line ≡ None
