-- The value of JSON that is the line of a plugin's command.
use Rattle.std.specs.Prelude.{ℕ, ◌^◌, ℤ, pos, negsuc, Bool, nat_lt, if◌then◌else◌, List, [], map, codes, Option, Some, None, option_map, ⊤}
use Rattle.plain_edits.specs.declared.delta.Delta.{Delta}
use Rattle.plain_edits.specs.declared.style.Style.{Style}
use Rattle.xi_plain.specs.declared.span.WireSpan.{WireSpan}
use Rattle.xi_plain.specs.declared.command.Id.{Id}
use Rattle.xi_plain.specs.declared.command.Id.TheVariants.{NoId, Num, Word}
use Rattle.xi_plain.specs.declared.command.Act.{Act}
use Rattle.xi_plain.specs.declared.command.Act.TheVariants.{PluginEdit, GetData, UpdateSpans, LineCount, Alert, Ack}
use Rattle.xi_plain.specs.declared.command.Command.{Command}
use Rattle.serde_json.specs.Data.{Data, unsigned, negative, null, boolean, number, array, object, Members, no_members, member}
use Rattle.serde_json.specs.View.{items_of}
use Rattle.serde_json.specs.Written.{compact_text}
use Rattle.json_rpc.specs.Response.{text_data}
use Rattle.plugin_wire.specs.Told.{whole_data, delta_data}

-- the act is one of the six that a plugin asks in a line
abbrev pub IsAsk : Act → Type 0
IsAsk (PluginEdit view rev delta priority after_cursor author named) = ⊤
IsAsk (GetData view rev start max) = ⊤
IsAsk (UpdateSpans view rev start len spans) = ⊤
IsAsk (LineCount view) = ⊤
IsAsk (Alert msg) = ⊤
IsAsk (Ack view rev) = ⊤
IsAsk act = ⊥

-- the members, and before them one of this name, where there is a value for it
abbrev pub after_if : List ℕ → Option Data → Members → Members
after_if name None members = members
after_if name (Some d) members = member name d members

-- ---- spans

-- a style: what it says nothing of is left out
abbrev pub style_data : Style → Data
style_data style =
    object (after_if (codes "bg_color") (option_map whole_data style.bg_color)
    (after_if (codes "fg_color") (option_map whole_data style.fg_color)
    (after_if (codes "italic") (option_map boolean style.italic)
    (after_if (codes "underline") (option_map boolean style.underline)
    (after_if (codes "weight") (option_map whole_data style.weight) no_members)))))

-- a span: its two offsets and its style
abbrev pub span_data : WireSpan → Data
span_data span =
    object (member (codes "end") (whole_data span.end)
    (member (codes "start") (whole_data span.start)
    (member (codes "style") (style_data span.style) no_members)))

-- spans in their order
abbrev pub spans_data : List WireSpan → Data
spans_data spans = array (items_of (map span_data spans))

-- ---- the params of each method

-- the params of `edit`; the undo group is left out where none is named
abbrev pub edit_params : List ℕ → ℕ → Delta → ℕ → Bool → List ℕ → Option ℕ → Data
edit_params view rev delta priority after_cursor author named =
    object (member (codes "after_cursor") (boolean after_cursor)
    (member (codes "author") (text_data author)
    (member (codes "delta") (delta_data delta)
    (member (codes "priority") (whole_data priority)
    (member (codes "rev") (whole_data rev)
    (after_if (codes "undo_group") (option_map whole_data named)
    (member (codes "view_id") (text_data view) no_members)))))))

-- the params of `get_data`
abbrev pub data_params : List ℕ → ℕ → ℕ → ℕ → Data
data_params view rev start max =
    object (member (codes "max_size") (whole_data max)
    (member (codes "rev") (whole_data rev)
    (member (codes "start") (whole_data start)
    (member (codes "view_id") (text_data view) no_members))))

-- the params of `update_spans`
abbrev pub spans_params : List ℕ → ℕ → ℕ → ℕ → List WireSpan → Data
spans_params view rev start len spans =
    object (member (codes "len") (whole_data len)
    (member (codes "rev") (whole_data rev)
    (member (codes "spans") (spans_data spans)
    (member (codes "start") (whole_data start)
    (member (codes "view_id") (text_data view) no_members)))))

-- the params of `line_count`
abbrev pub count_params : List ℕ → Data
count_params view = object (member (codes "view_id") (text_data view) no_members)

-- the params of `alert`
abbrev pub alert_params : List ℕ → Data
alert_params msg = object (member (codes "msg") (text_data msg) no_members)

-- the params of `ack`
abbrev pub ack_params : List ℕ → ℕ → Data
ack_params view rev = object (member (codes "rev") (whole_data rev) (member (codes "view_id") (text_data view) no_members))

-- ---- a command

-- the method that asks the act
abbrev pub ask_method : Act → List ℕ
ask_method (PluginEdit view rev delta priority after_cursor author named) = codes "edit"
ask_method (GetData view rev start max) = codes "get_data"
ask_method (UpdateSpans view rev start len spans) = codes "update_spans"
ask_method (LineCount view) = codes "line_count"
ask_method (Alert msg) = codes "alert"
ask_method (Ack view rev) = codes "ack"
ask_method act = []

-- and its params
abbrev pub ask_params : Act → Data
ask_params (PluginEdit view rev delta priority after_cursor author named) = edit_params view rev delta priority after_cursor author named
ask_params (GetData view rev start max) = data_params view rev start max
ask_params (UpdateSpans view rev start len spans) = spans_params view rev start len spans
ask_params (LineCount view) = count_params view
ask_params (Alert msg) = alert_params msg
ask_params (Ack view rev) = ack_params view rev
ask_params act = null

-- a whole number from -2^63 to 2^64 - 1; JSON has no room for another, which is null
abbrev pub id_number : ℤ → Data
id_number (pos n) = if nat_lt n (2 ^ 64) then number (unsigned n) else null
id_number (negsuc n) = if nat_lt n (2 ^ 63) then number (negative (negsuc n)) else null

-- the value of the member `id`, where there is an id
abbrev pub id_member : Id → Option Data
id_member NoId = None
id_member (Num z) = Some (id_number z)
id_member (Word text) = Some (text_data text)

-- THE COMMAND
abbrev pub command_data : Command → Data
command_data command =
    object (after_if (codes "id") (id_member command.id)
    (member (codes "method") (text_data (ask_method command.act))
    (member (codes "params") (ask_params command.act) no_members)))

-- its line without the LF at the end, as a turn gives it
unfoldable pub turn_bytes : Command → List ℕ
turn_bytes command = compact_text (command_data command)
