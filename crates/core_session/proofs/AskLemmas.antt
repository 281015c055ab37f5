-- What lines of plugins ask: only what a plugin may, unless they are refused.
use Rattle.std.proofs.Common.{◌≡◌, ℕ, Bool, true, false, List, Option, Some, None, refl}
use Rattle.std.specs.Prelude.{Result, Ok, Err, ⊤}
use Rattle.plain_edits.specs.declared.delta.Delta.{Delta}
use Rattle.plain_edits.specs.declared.style.Style.{Style}
use Rattle.serde_json.specs.Data.{Data}
use Rattle.xi_plain.specs.declared.command.Act.{Act}
use Rattle.xi_plain.specs.declared.command.Act.TheVariants as act
use Rattle.xi_plain.specs.declared.entry.ShelfNote.TheVariants.{NoCall}
use Rattle.xi_plain.specs.declared.span.WireSpan.{WireSpan}
use Rattle.xi_plain.specs.Journal.{closes, may_have_note}
use Rattle.json_rpc.specs.Request.{LineRefusal, Request, line_request, no_reading, no_request}
use Rattle.plugin_wire.specs.Asked.{ack_from, ask_from, ask_of, data_from, method_ask, or_bad_params, plugin_act_of, plugin_edit_from, spans_from, caret_member, delta_member, group_member, priority_member, spans_member, text_member, whole_member, with_member}
use Rattle.plugin_wire.specs.declared.member.Member.TheVariants as member
use Rattle.plugin_wire.specs.declared.method.Method.{Method}
use Rattle.plugin_wire.specs.declared.method.Method.TheVariants as method
use Rattle.plugin_wire.specs.Methods.{method_named}
use Rattle.std.specs.Str.{encode_utf8_all}
use Rattle.session_step.specs.Accepted.{is_of_plugin}
use Rattle.session_step.specs.PluginStep.{plugin_refusal}
use Rattle.session_step.specs.Session.{OpenView}

-- a plugin may ask so, or it is the fault of a line
abbrev IsPluginLine : Act → Type 0
IsPluginLine (act.Bad fault) = ⊤
IsPluginLine act = is_of_plugin act ≡ true

edit_asks : (view : Option (List ℕ)) (rev : Option ℕ) (delta : Option Delta) (priority : Option ℕ) (after_cursor : Option Bool)
    (author : Option (List ℕ)) (named : Option (Option ℕ)) → IsPluginLine (or_bad_params (plugin_edit_from view rev delta priority after_cursor author named))
edit_asks None rev delta priority after_cursor author named = tt
edit_asks (Some v) None delta priority after_cursor author named = tt
edit_asks (Some v) (Some r) None priority after_cursor author named = tt
edit_asks (Some v) (Some r) (Some d) None after_cursor author named = tt
edit_asks (Some v) (Some r) (Some d) (Some p) None author named = tt
edit_asks (Some v) (Some r) (Some d) (Some p) (Some a) None named = tt
edit_asks (Some v) (Some r) (Some d) (Some p) (Some a) (Some w) None = tt
edit_asks (Some v) (Some r) (Some d) (Some p) (Some a) (Some w) (Some g) = refl

data_asks : (view : Option (List ℕ)) (rev start max : Option ℕ) → IsPluginLine (or_bad_params (data_from view rev start max))
data_asks None rev start max = tt
data_asks (Some v) None start max = tt
data_asks (Some v) (Some r) None max = tt
data_asks (Some v) (Some r) (Some s) None = tt
data_asks (Some v) (Some r) (Some s) (Some m) = refl

spans_asks : (view : Option (List ℕ)) (rev start len : Option ℕ) (spans : Option (List WireSpan)) →
    IsPluginLine (or_bad_params (spans_from view rev start len spans))
spans_asks None rev start len spans = tt
spans_asks (Some v) None start len spans = tt
spans_asks (Some v) (Some r) None len spans = tt
spans_asks (Some v) (Some r) (Some s) None spans = tt
spans_asks (Some v) (Some r) (Some s) (Some n) None = tt
spans_asks (Some v) (Some r) (Some s) (Some n) (Some l) = refl

ack_asks : (view : Option (List ℕ)) (rev : Option ℕ) → IsPluginLine (or_bad_params (ack_from view rev))
ack_asks None rev = tt
ack_asks (Some v) None = tt
ack_asks (Some v) (Some r) = refl

method_asks : (asked : Method) (params : Data) → IsPluginLine (or_bad_params (method_ask asked params))
method_asks method.Ack params = ack_asks (text_member member.ViewId params) (whole_member member.Rev params)
method_asks method.Alert params = by (text_member member.Msg params)
  where
    by : (msg : Option (List ℕ)) → IsPluginLine (or_bad_params (with_member member.Msg msg (λ m. Ok (act.Alert m))))
    by None = tt
    by (Some m) = refl
method_asks method.Edit params =
    edit_asks (text_member member.ViewId params) (whole_member member.Rev params) (delta_member params) (priority_member params)
    (caret_member params) (text_member member.Author params) (group_member params)
method_asks method.GetData params =
    data_asks (text_member member.ViewId params) (whole_member member.Rev params) (whole_member member.Start params) (whole_member member.MaxSize params)
method_asks method.LineCount params = by (text_member member.ViewId params)
  where
    by : (view : Option (List ℕ)) → IsPluginLine (or_bad_params (with_member member.ViewId view (λ v. Ok (act.LineCount v))))
    by None = tt
    by (Some v) = refl
method_asks method.UpdateSpans params =
    spans_asks (text_member member.ViewId params) (whole_member member.Rev params) (whole_member member.Start params) (whole_member member.Len params)
    (spans_member (whole_member member.Len params) params)

named_asks : (asked : Option Method) (name : List ℕ) (params : Data) → IsPluginLine (plugin_act_of asked name params)
named_asks None name params = tt
named_asks (Some asked) name params = method_asks asked params

-- what a line of a plugin asks, a plugin may ask, or it is refused
IsPluginLine-ask_of : (line : List ℕ) → IsPluginLine (ask_of line).act
unfolding ask_of
IsPluginLine-ask_of line = by (line_request line)
  where
    by : (is : Result Request LineRefusal) → IsPluginLine (ask_from is).act
    by (Ok request) = named_asks (method_named (encode_utf8_all request.method)) request.method request.params
    by (Err no_reading) = tt
    by (Err no_request) = tt

-- where it is not refused, a plugin may ask so
may_ask : (views : List OpenView) (styles : List Style) (caller : ℕ) (asked : Act) → IsPluginLine asked →
    plugin_refusal views styles caller asked ≡ None → is_of_plugin asked ≡ true
may_ask views styles caller (act.Bad fault) asks taken = absurd cc
may_ask views styles caller asked asks taken = asks

-- a line of a plugin that is not refused asks what a plugin may ask
pub asks_of-line : (line : List ℕ) (views : List OpenView) (styles : List Style) (caller : ℕ) →
    plugin_refusal views styles caller (ask_of line).act ≡ None → is_of_plugin (ask_of line).act ≡ true
asks_of-line line views styles caller taken = may_ask views styles caller (ask_of line).act (IsPluginLine-ask_of line) taken

-- what a plugin may ask asks the shelf nothing
pub note_of-plugin : (asked : Act) → is_of_plugin asked ≡ true → may_have_note asked NoCall ≡ true
note_of-plugin (act.NewView path) asks = absurd cc
note_of-plugin (act.Save view path) asks = absurd cc
note_of-plugin asked asks = refl

-- and closes no session
pub closes_of-plugin : (asked : Act) → is_of_plugin asked ≡ true → closes asked ≡ false
closes_of-plugin act.Closing asks = absurd cc
closes_of-plugin asked asks = refl
