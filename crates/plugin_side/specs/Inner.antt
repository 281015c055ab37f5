-- Definitions that stand between a contract and its body.
use Rattle.std.specs.Prelude.{ℕ, ℤ, Bool, List, codes, Option, Some, None, option_map, option_and_then, ⊤}
use Rattle.plain_edits.specs.declared.delta.Delta.{Delta}
use Rattle.plain_edits.specs.declared.style.Style.{Style}
use Rattle.xi_plain.specs.declared.command.Id.{Id}
use Rattle.xi_plain.specs.declared.command.Act.{Act}
use Rattle.xi_plain.specs.declared.command.Act.TheVariants.{PluginEdit, UpdateSpans}
use Rattle.serde_json.specs.Data.{Data, boolean, Members, no_members, member, put}
use Rattle.json_rpc.specs.Request.{no_request, or_refusal, request_of}
use Rattle.json_rpc.specs.Response.{text_data, response_of}
use Rattle.plugin_wire.specs.Told.{Told as WireTold, whole_data, delta_data}
use Rattle.plugin_wire.specs.Hearing.{heard_request}
use Rattle.plugin_side.specs.declared.heard.Answered.{Answered}
use Rattle.plugin_side.specs.declared.heard.Answered.TheVariants.{Failed}
use Rattle.plugin_side.specs.declared.heard.Heard.{Heard}
use Rattle.plugin_side.specs.declared.heard.Heard.TheVariants as Hears
use Rattle.plugin_side.specs.Heard.{with_room, response_heard, heard_of}

-- the act is one of the two that have a delta or spans
abbrev pub IsListAsk : Act → Type 0
IsListAsk (PluginEdit view rev delta priority after_cursor author named) = ⊤
IsListAsk (UpdateSpans view rev start len spans) = ⊤
IsListAsk act = ⊥

-- the members, and among them one of this name, where there is a value for it
abbrev pub with_if : List ℕ → Option Data → Members → Members
with_if name None members = members
with_if name (Some d) members = put name d members

-- the members of the params of `edit` but the undo group
abbrev pub edit_members : List ℕ → ℕ → Delta → ℕ → Bool → List ℕ → Members
edit_members view rev delta priority after_cursor author =
    member (codes "after_cursor") (boolean after_cursor)
    (member (codes "author") (text_data author)
    (member (codes "delta") (delta_data delta)
    (member (codes "priority") (whole_data priority)
    (member (codes "rev") (whole_data rev)
    (member (codes "view_id") (text_data view) no_members)))))

-- the members of a style, each put among those after it
abbrev pub style_members : Style → Members
style_members style =
    with_if (codes "bg_color") (option_map whole_data style.bg_color)
    (with_if (codes "fg_color") (option_map whole_data style.fg_color)
    (with_if (codes "italic") (option_map boolean style.italic)
    (with_if (codes "underline") (option_map boolean style.underline)
    (with_if (codes "weight") (option_map whole_data style.weight) no_members))))

-- what a value tells that a line reads as
abbrev pub value_told : Data → Option WireTold
value_told d = heard_request (or_refusal no_request (request_of d))

-- the notice that a value is, where its numbers have room
abbrev pub value_notice : Data → Option Heard
value_notice d = option_map Hears.Told (option_and_then with_room (value_told d))

-- the answer that a value is
abbrev pub value_answer : Data → Option Heard
value_answer d = option_and_then response_heard (response_of d)

-- what is heard in a value
abbrev pub value_heard : Data → Heard
value_heard d = heard_of (value_notice d) (value_answer d)

-- the answer to whom these two say, where both are there
abbrev pub answer_by : Option Id → Option Answered → Option Heard
answer_by (Some id) (Some answer) = Some (Hears.Answer id answer)
answer_by id answer = None

-- the error of these members
abbrev pub failure_by : Option ℤ → Option (List ℕ) → Option Answered
failure_by (Some code) (Some message) = Some (Failed code message)
failure_by code message = None
