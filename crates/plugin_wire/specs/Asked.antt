-- What a line of a plugin asks, by its bytes alone.
use Rattle.std.specs.Prelude.{ℕ, ◌^◌, Bool, List, codes, Option, Some, None, option_and_then, Result, Ok, Err}
use Rattle.std.specs.Str.{encode_utf8_all}
use Rattle.plain_edits.specs.declared.delta.Delta.{Delta}
use Rattle.xi_plain.specs.declared.span.WireSpan.{WireSpan}
use Rattle.xi_plain.specs.declared.command.Id.TheVariants.{NoId}
use Rattle.xi_plain.specs.declared.command.Fault.{Fault}
use Rattle.xi_plain.specs.declared.command.Fault.TheVariants.{Parse, Invalid, NoMethod, BadParams}
use Rattle.xi_plain.specs.declared.command.Act.{Act}
use Rattle.xi_plain.specs.declared.command.Command.{Command}
use Rattle.plugin_wire.specs.declared.method.Method.{Method}
use Rattle.plugin_wire.specs.declared.member.Member.{Member}
use Rattle.plugin_wire.specs.declared.member.Member.TheVariants.{ViewId, Rev, Delta as DeltaMember, Priority, AfterCursor, Author, UndoGroup, Start, MaxSize, Len, Spans, Msg}
use Rattle.serde_json.specs.Data.{Data}
use Rattle.serde_json.specs.Find.{get, as_bool}
use Rattle.json_rpc.specs.Request.{Request, LineRefusal, no_reading, no_request, line_request}
use Rattle.plugin_wire.specs.Methods.{method_named}
use Rattle.plugin_wire.specs.Shapes.{whole_shape, text_shape, member_shape, optional_shape, delta_shape, spans_shape}

-- the name of a member
abbrev pub member_name : Member → List ℕ
member_name ViewId = codes "view_id"
member_name Rev = codes "rev"
member_name DeltaMember = codes "delta"
member_name Priority = codes "priority"
member_name AfterCursor = codes "after_cursor"
member_name Author = codes "author"
member_name UndoGroup = codes "undo_group"
member_name Start = codes "start"
member_name MaxSize = codes "max_size"
member_name Len = codes "len"
member_name Spans = codes "spans"
member_name Msg = codes "msg"

-- ---- each member, where it is of its shape

-- a text
abbrev pub text_member : Member → Data → Option (List ℕ)
text_member member params = member_shape text_shape (member_name member) params

-- a whole number from 0 to 2^63 - 1
abbrev pub whole_member : Member → Data → Option ℕ
whole_member member params = member_shape (whole_shape (2 ^ 63)) (member_name member) params

-- the priority, from 0 to 2^32 - 1
abbrev pub priority_member : Data → Option ℕ
priority_member params = member_shape (whole_shape (2 ^ 32)) (member_name Priority) params

-- whether an insertion goes after a caret that stands there
abbrev pub caret_member : Data → Option Bool
caret_member params = member_shape as_bool (member_name AfterCursor) params

-- the undo group, which may be left out
abbrev pub group_member : Data → Option (Option ℕ)
group_member params = optional_shape (whole_shape (2 ^ 63)) (get (member_name UndoGroup) params)

-- the delta
abbrev pub delta_member : Data → Option Delta
delta_member params = member_shape (delta_shape (2 ^ 63)) (member_name DeltaMember) params

-- the spans, within the length that stands beside them
abbrev pub spans_member : Option ℕ → Data → Option (List WireSpan)
spans_member len params = option_and_then (λ n. member_shape (spans_shape n) (member_name Spans) params) len

-- ---- each method, by its members in their order

-- what comes next where a member is there and of its shape; else the member is what is wrong
abbrev pub with_member : {A : Type 0} → Member → Option A → (A → Result Act Member) → Result Act Member
with_member member None next = Err member
with_member member (Some x) next = next x

-- an edit of these members
abbrev pub plugin_edit_from : Option (List ℕ) → Option ℕ → Option Delta → Option ℕ → Option Bool → Option (List ℕ) → Option (Option ℕ) → Result Act Member
plugin_edit_from view rev delta priority after_cursor author named =
    with_member ViewId view (λ v. with_member Rev rev (λ r. with_member DeltaMember delta (λ d.
    with_member Priority priority (λ p. with_member AfterCursor after_cursor (λ a.
    with_member Author author (λ w. with_member UndoGroup named (λ g. Ok (Act.PluginEdit v r d p a w g))))))))

-- what `edit` asks
abbrev pub edit_ask : Data → Result Act Member
edit_ask params =
    plugin_edit_from (text_member ViewId params) (whole_member Rev params) (delta_member params) (priority_member params)
    (caret_member params) (text_member Author params) (group_member params)

-- a reading of these members
abbrev pub data_from : Option (List ℕ) → Option ℕ → Option ℕ → Option ℕ → Result Act Member
data_from view rev start max =
    with_member ViewId view (λ v. with_member Rev rev (λ r. with_member Start start (λ s. with_member MaxSize max (λ m. Ok (Act.GetData v r s m)))))

-- what `get_data` asks
abbrev pub data_ask : Data → Result Act Member
data_ask params = data_from (text_member ViewId params) (whole_member Rev params) (whole_member Start params) (whole_member MaxSize params)

-- new spans of these members
abbrev pub spans_from : Option (List ℕ) → Option ℕ → Option ℕ → Option ℕ → Option (List WireSpan) → Result Act Member
spans_from view rev start len spans =
    with_member ViewId view (λ v. with_member Rev rev (λ r. with_member Start start (λ s.
    with_member Len len (λ n. with_member Spans spans (λ l. Ok (Act.UpdateSpans v r s n l))))))

-- what `update_spans` asks
abbrev pub spans_ask : Data → Result Act Member
spans_ask params =
    spans_from (text_member ViewId params) (whole_member Rev params) (whole_member Start params) (whole_member Len params)
    (spans_member (whole_member Len params) params)

-- what `line_count` asks
abbrev pub count_ask : Data → Result Act Member
count_ask params = with_member ViewId (text_member ViewId params) (λ view. Ok (Act.LineCount view))

-- what `alert` asks
abbrev pub alert_ask : Data → Result Act Member
alert_ask params = with_member Msg (text_member Msg params) (λ msg. Ok (Act.Alert msg))

-- an acknowledgement of these members
abbrev pub ack_from : Option (List ℕ) → Option ℕ → Result Act Member
ack_from view rev = with_member ViewId view (λ v. with_member Rev rev (λ r. Ok (Act.Ack v r)))

-- what `ack` asks
abbrev pub ack_ask : Data → Result Act Member
ack_ask params = ack_from (text_member ViewId params) (whole_member Rev params)

-- what a method asks with its parameters, or the first member that is missing or of another shape
abbrev pub method_ask : Method → Data → Result Act Member
method_ask Method.Ack params = ack_ask params
method_ask Method.Alert params = alert_ask params
method_ask Method.Edit params = edit_ask params
method_ask Method.GetData params = data_ask params
method_ask Method.LineCount params = count_ask params
method_ask Method.UpdateSpans params = spans_ask params

-- ---- a line

-- what is asked, or the refusal that names the member
abbrev pub or_bad_params : Result Act Member → Act
or_bad_params (Ok act) = act
or_bad_params (Err member) = Act.Bad (BadParams (member_name member))

-- what this method asks, if there is one; else the name is refused
abbrev pub plugin_act_of : Option Method → List ℕ → Data → Act
plugin_act_of None name params = Act.Bad (NoMethod name)
plugin_act_of (Some method) name params = or_bad_params (method_ask method params)

-- what a name asks with its parameters
abbrev pub plugin_act : List ℕ → Data → Act
plugin_act name params = plugin_act_of (method_named (encode_utf8_all name)) name params

-- the line is refused, and has no id
abbrev pub refused_line : Fault → Command
refused_line fault = record { id = NoId; act = Act.Bad fault }

-- what a request asks
abbrev pub request_ask : Request → Command
request_ask request = record { id = request.id; act = plugin_act request.method request.params }

-- what is asked by what a line is
abbrev pub ask_from : Result Request LineRefusal → Command
ask_from (Ok request) = request_ask request
ask_from (Err no_reading) = refused_line Parse
ask_from (Err no_request) = refused_line Invalid

-- WHAT A LINE of a plugin ASKS
unfoldable pub ask_of : List ℕ → Command
ask_of line = ask_from (line_request line)
