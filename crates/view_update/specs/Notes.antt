-- The values of three more notes to a front end.
use Rattle.std.specs.Prelude.{ℕ, List, codes, option_map}
use Rattle.plain_edits.specs.declared.style.Style.{Style}
use Rattle.serde_json.specs.Data.{Data, boolean, object, no_members, member}
use Rattle.json_rpc.specs.Response.{text_data, note_data}
use Rattle.view_update.specs.Written.{count_data, after_member}

-- the params of the note that asks for this place of the view to be shown: the line's number from 0 on, and a byte column
abbrev pub scroll_params : List ℕ → ℕ → ℕ → Data
scroll_params view line col =
    object (member (codes "col") (count_data col) (member (codes "line") (count_data line) (member (codes "view_id") (text_data view) no_members)))

-- that note
abbrev pub scroll_data : List ℕ → ℕ → ℕ → Data
scroll_data view line col = note_data (codes "scroll_to") (scroll_params view line col)

-- the params of the note that has a message for the user
abbrev pub alert_params : List ℕ → Data
alert_params message = object (member (codes "msg") (text_data message) no_members)

-- that note
abbrev pub alert_data : List ℕ → Data
alert_data message = note_data (codes "alert") (alert_params message)

-- the params of the note that tells how the style of this number looks: the number, and those members of the style that are named
abbrev pub style_params : ℕ → Style → Data
style_params id style =
    object (after_member (codes "bg_color") (option_map count_data style.bg_color)
    (after_member (codes "fg_color") (option_map count_data style.fg_color)
    (member (codes "id") (count_data id)
    (after_member (codes "italic") (option_map boolean style.italic)
    (after_member (codes "underline") (option_map boolean style.underline)
    (after_member (codes "weight") (option_map count_data style.weight) no_members))))))

-- that note
abbrev pub style_data : ℕ → Style → Data
style_data id style = note_data (codes "def_style") (style_params id style)
