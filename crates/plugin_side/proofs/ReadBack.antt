-- What the values of commands are to the core.
use Rattle.std.proofs.Common.{◌≡◌, ℕ, ◌<◌, ◌≤◌, ◌^◌, pos, negsuc, ℤ, List, [], ◌∷◌, map, Bool, cond, Option, Some, None, Ok, Equal, Greater, nat_cmp, option_map, option_and_then, codes, refl, ap, ◌∙◌, arith}
use Rattle.std.specs.Prelude.{nat_le}
use Rattle.std.specs.Cmp.Lexicographic.{slice_cmp}
use Rattle.std.specs.List.{AllByRecursion}
use Rattle.std.specs.Ordering.{match_ordering}
use Rattle.std.specs.Str.{chars, encode_utf8_all}
use Rattle.std.proofs.lemmas.Bool.{lt-ltb, le-leb, and_from}
use Rattle.std.proofs.lemmas.Int.{ints}
use Rattle.std.proofs.lemmas.Str.{chars-encodes}
use lib.Utf8.{encode}
use Rattle.plain_edits.specs.declared.delta.El.{El}
use Rattle.plain_edits.specs.declared.delta.El.TheVariants.{Copy, Insert}
use Rattle.plain_edits.specs.declared.delta.Delta.{Delta}
use Rattle.plain_edits.specs.declared.style.Style.{Style}
use Rattle.xi_plain.specs.declared.span.WireSpan.{WireSpan}
use Rattle.xi_plain.specs.declared.command.Id.{Id}
use Rattle.xi_plain.specs.declared.command.Id.TheVariants.{NoId, Num, Word}
use Rattle.xi_plain.specs.declared.command.Act.{Act}
use Rattle.xi_plain.specs.declared.command.Command.{Command}
use Rattle.serde_json.specs.Data.{Data, unsigned, negative, null, boolean, number, Members, no_members, member, object}
use Rattle.serde_json.specs.Find.{get, get_member, as_bool}
use Rattle.serde_json.specs.View.{items_of}
use Rattle.json_rpc.specs.Line.{IsLineOf}
use Rattle.json_rpc.specs.Proper.{IsBelow}
use Rattle.json_rpc.specs.Request.{IsWireNumber, IsWireId, IsTextId, member_id, no_request, or_refusal, request_of, value_request, line_request}
use Rattle.json_rpc.specs.Response.{text_data}
use Rattle.plugin_wire.specs.Asked.{plugin_edit_from, data_from, spans_from, ack_from, edit_ask, data_ask, spans_ask, count_ask, alert_ask, ack_ask, or_bad_params, plugin_act, ask_from, ask_of}
use Rattle.plugin_wire.specs.Fair.{HasScalars, IsFairEl, IsFairDelta}
use Rattle.plugin_wire.specs.Shapes.{whole_shape, optional_shape, style_from, style_shape, each_shape, span_from, span_shape, spans_shape}
use Rattle.plugin_wire.specs.Told.{whole_data}
use Rattle.plugin_wire.proofs.ForCallers.{whole_shape-whole_data, text_shape-text_data, delta_shape-delta_data}
use Rattle.plugin_side.specs.Asking.{IsAsk, after_if, style_data, span_data, spans_data, edit_params, data_params, spans_params, count_params, alert_params, ack_params, ask_method, ask_params, id_number, id_member, command_data}
use Rattle.plugin_side.specs.Range.{IsUnder, IsHeldStyle, IsHeldSpan, IsHeldAct, IsHeldCommand, IsTakenEl, IsTakenDelta, IsTakenSpan, IsTakenAct, IsTakenCommand}
use Rattle.plugin_side.specs.Laws.{CommandsReadBack}
use Rattle.plugin_side.proofs.Plain.{from_weight, from_underline, from_italic, from_fg_color, below_weight, below_underline, below_italic, below_fg_color, IsPlain-command, ask_method-scalars, IsLineOf-command}

-- ---- members that may be left out

-- a name that is below all others is none of them
get_member-below : (k : List ℕ) (ms : Members) → IsBelow k ms → get_member k ms ≡ None
get_member-below k no_members below = refl
get_member-below k (member l e ms) below =
    ap (λ o. match_ordering o (get_member k ms) (Some e) (get_member k ms)) below.0 ∙ get_member-below k ms below.1

-- the member of this name
get_member-here : (k : List ℕ) (o : Option Data) (ms : Members) → slice_cmp nat_cmp k k ≡ Equal → IsBelow k ms → get_member k (after_if k o ms) ≡ o
get_member-here k None ms same below = get_member-below k ms below
get_member-here k (Some d) ms same below = ap (λ o. match_ordering o (get_member k ms) (Some d) (get_member k ms)) same

-- one of a later name
get_member-later : (k l : List ℕ) (o : Option Data) (ms : Members) → slice_cmp nat_cmp k l ≡ Greater → get_member k (after_if l o ms) ≡ get_member k ms
get_member-later k l None ms greater = refl
get_member-later k l (Some d) ms greater = ap (λ o. match_ordering o (get_member k ms) (Some d) (get_member k ms)) greater

-- ---- styles

get_bg_color : (style : Style) → get (codes "bg_color") (style_data style) ≡ option_map whole_data style.bg_color
get_bg_color style = get_member-here (codes "bg_color") _ (from_fg_color style) refl (below_fg_color (codes "bg_color") style refl refl refl refl)

get_fg_color : (style : Style) → get (codes "fg_color") (style_data style) ≡ option_map whole_data style.fg_color
get_fg_color style =
    get_member-later (codes "fg_color") (codes "bg_color") (option_map whole_data style.bg_color) (from_fg_color style) refl
    ∙ get_member-here (codes "fg_color") _ (from_italic style) refl (below_italic (codes "fg_color") style refl refl refl)

get_italic : (style : Style) → get (codes "italic") (style_data style) ≡ option_map boolean style.italic
get_italic style =
    get_member-later (codes "italic") (codes "bg_color") (option_map whole_data style.bg_color) (from_fg_color style) refl
    ∙ get_member-later (codes "italic") (codes "fg_color") (option_map whole_data style.fg_color) (from_italic style) refl
    ∙ get_member-here (codes "italic") _ (from_underline style) refl (below_underline (codes "italic") style refl refl)

get_underline : (style : Style) → get (codes "underline") (style_data style) ≡ option_map boolean style.underline
get_underline style =
    get_member-later (codes "underline") (codes "bg_color") (option_map whole_data style.bg_color) (from_fg_color style) refl
    ∙ get_member-later (codes "underline") (codes "fg_color") (option_map whole_data style.fg_color) (from_italic style) refl
    ∙ get_member-later (codes "underline") (codes "italic") (option_map boolean style.italic) (from_underline style) refl
    ∙ get_member-here (codes "underline") _ (from_weight style) refl (below_weight (codes "underline") style refl)

get_weight : (style : Style) → get (codes "weight") (style_data style) ≡ option_map whole_data style.weight
get_weight style =
    get_member-later (codes "weight") (codes "bg_color") (option_map whole_data style.bg_color) (from_fg_color style) refl
    ∙ get_member-later (codes "weight") (codes "fg_color") (option_map whole_data style.fg_color) (from_italic style) refl
    ∙ get_member-later (codes "weight") (codes "italic") (option_map boolean style.italic) (from_underline style) refl
    ∙ get_member-later (codes "weight") (codes "underline") (option_map boolean style.underline) (from_weight style) refl
    ∙ get_member-here (codes "weight") _ no_members refl tt

optional_count : (limit : ℕ) (o : Option ℕ) → IsUnder limit o → optional_shape (whole_shape limit) (option_map whole_data o) ≡ Some o
optional_count limit None h = refl
optional_count limit (Some n) h = ap (option_map Some) (whole_shape-whole_data limit n h)

optional_truth : (o : Option Bool) → optional_shape as_bool (option_map boolean o) ≡ Some o
optional_truth None = refl
optional_truth (Some b) = refl

style_shape-style_data : (style : Style) → IsHeldStyle style → IsUnder 1001 style.weight → style_shape (style_data style) ≡ Some style
style_shape-style_data style h light =
    let fg = ap (optional_shape (whole_shape (2 ^ 32))) (get_fg_color style) ∙ optional_count (2 ^ 32) style.fg_color h.fg_color in
    let bg = ap (optional_shape (whole_shape (2 ^ 32))) (get_bg_color style) ∙ optional_count (2 ^ 32) style.bg_color h.bg_color in
    let weight = ap (optional_shape (whole_shape 1001)) (get_weight style) ∙ optional_count 1001 style.weight light in
    let italic = ap (optional_shape as_bool) (get_italic style) ∙ optional_truth style.italic in
    let underline = ap (optional_shape as_bool) (get_underline style) ∙ optional_truth style.underline in
    λ i. style_from (fg i) (bg i) (weight i) (italic i) (underline i)

-- ---- spans

span_from-parts : (len : ℕ) (span : WireSpan) → span.start ≤ span.end → span.end ≤ len → span_from len (Some span.start) (Some span.end) (Some span.style) ≡ Some span
span_from-parts len span ordered within =
    ap (λ b. cond b (Some span) None) (and_from (nat_le span.start span.end) (nat_le span.end len) (le-leb span.start span.end ordered) (le-leb span.end len within))

span_shape-span_data : (len : ℕ) (span : WireSpan) → len < 2 ^ 63 → IsHeldSpan span → IsTakenSpan len span → span_shape len (span_data span) ≡ Some span
span_shape-span_data len span small h k =
    let start = whole_shape-whole_data (2 ^ 63) span.start (omega (arith, small, k.ordered, k.within)) in
    let end = whole_shape-whole_data (2 ^ 63) span.end (omega (arith, small, k.within)) in
    let style = style_shape-style_data span.style h.style k.weight in
    (λ i. span_from len (start i) (end i) (style i)) ∙ span_from-parts len span k.ordered k.within

each_shape-spans : (len : ℕ) (spans : List WireSpan) → len < 2 ^ 63 → AllByRecursion IsHeldSpan spans → AllByRecursion (IsTakenSpan len) spans
    → each_shape (span_shape len) (items_of (map span_data spans)) ≡ Some spans
each_shape-spans len [] small all taken = refl
each_shape-spans len (span ∷ spans) small all taken =
    ap (option_and_then (λ x. option_map (λ xs. x ∷ xs) (each_shape (span_shape len) (items_of (map span_data spans))))) (span_shape-span_data len span small all.0 taken.0)
    ∙ ap (option_map (λ xs. span ∷ xs)) (each_shape-spans len spans small all.1 taken.1)

-- ---- deltas

near_el : (el : El) → IsFairEl (2 ^ 64) el → IsTakenEl el → IsFairEl (2 ^ 63) el
near_el (Copy a b) h k = k
near_el (Insert text) h k = h

near_els : (els : List El) → AllByRecursion (IsFairEl (2 ^ 64)) els → AllByRecursion IsTakenEl els → AllByRecursion (IsFairEl (2 ^ 63)) els
near_els [] h k = tt
near_els (el ∷ els) h k = (near_el el h.0 k.0, near_els els h.1 k.1)

near_delta : (delta : Delta) → IsFairDelta (2 ^ 64) delta → IsTakenDelta delta → IsFairDelta (2 ^ 63) delta
near_delta delta h k = record { base_len = k.base_len; els = near_els delta.els h.els k.els }

-- ---- each method

edit_ask-edit_params : (view : List ℕ) (rev : ℕ) (delta : Delta) (priority : ℕ) (after_cursor : Bool) (author : List ℕ) (named : Option ℕ)
    → IsHeldAct (Act.PluginEdit view rev delta priority after_cursor author named) → IsTakenAct (Act.PluginEdit view rev delta priority after_cursor author named)
    → edit_ask (edit_params view rev delta priority after_cursor author named) ≡ Ok (Act.PluginEdit view rev delta priority after_cursor author named)
edit_ask-edit_params view rev delta priority after_cursor author None h k =
    let id = text_shape-text_data view h.0 in
    let at = whole_shape-whole_data (2 ^ 63) rev k.0 in
    let change = delta_shape-delta_data (2 ^ 63) delta (near_delta delta h.2 k.1) in
    let first = whole_shape-whole_data (2 ^ 32) priority h.3 in
    let name = text_shape-text_data author h.4 in
    λ i. plugin_edit_from (id i) (at i) (change i) (first i) (Some after_cursor) (name i) (Some None)
edit_ask-edit_params view rev delta priority after_cursor author (Some group) h k =
    let id = text_shape-text_data view h.0 in
    let at = whole_shape-whole_data (2 ^ 63) rev k.0 in
    let change = delta_shape-delta_data (2 ^ 63) delta (near_delta delta h.2 k.1) in
    let first = whole_shape-whole_data (2 ^ 32) priority h.3 in
    let name = text_shape-text_data author h.4 in
    let named = ap (option_map Some) (whole_shape-whole_data (2 ^ 63) group k.2) in
    λ i. plugin_edit_from (id i) (at i) (change i) (first i) (Some after_cursor) (name i) (named i)

data_ask-data_params : (view : List ℕ) (rev start max : ℕ) → HasScalars view → IsTakenAct (Act.GetData view rev start max)
    → data_ask (data_params view rev start max) ≡ Ok (Act.GetData view rev start max)
data_ask-data_params view rev start max h k =
    let id = text_shape-text_data view h in
    let at = whole_shape-whole_data (2 ^ 63) rev k.0 in
    let from = whole_shape-whole_data (2 ^ 63) start k.1 in
    let most = whole_shape-whole_data (2 ^ 63) max k.2 in
    λ i. data_from (id i) (at i) (from i) (most i)

spans_ask-spans_params : (view : List ℕ) (rev start len : ℕ) (spans : List WireSpan)
    → IsHeldAct (Act.UpdateSpans view rev start len spans) → IsTakenAct (Act.UpdateSpans view rev start len spans)
    → spans_ask (spans_params view rev start len spans) ≡ Ok (Act.UpdateSpans view rev start len spans)
spans_ask-spans_params view rev start len spans h k =
    let id = text_shape-text_data view h.0 in
    let at = whole_shape-whole_data (2 ^ 63) rev k.0 in
    let from = whole_shape-whole_data (2 ^ 63) start k.1 in
    let length = whole_shape-whole_data (2 ^ 63) len k.2 in
    let within = each_shape-spans len spans k.2 h.4 k.3 in
    (λ i. spans_from (id i) (at i) (from i) (length i) (option_and_then (λ n. spans_shape n (spans_data spans)) (length i)))
    ∙ ap (spans_from (Some view) (Some rev) (Some start) (Some len)) within

ack_ask-ack_params : (view : List ℕ) (rev : ℕ) → HasScalars view → rev < 2 ^ 63 → ack_ask (ack_params view rev) ≡ Ok (Act.Ack view rev)
ack_ask-ack_params view rev h k =
    let id = text_shape-text_data view h in let at = whole_shape-whole_data (2 ^ 63) rev k in
    λ i. ack_from (id i) (at i)

count_ask-count_params : (view : List ℕ) → HasScalars view → count_ask (count_params view) ≡ Ok (Act.LineCount view)
count_ask-count_params view h = ap (λ v. Ok (Act.LineCount v)) (chars-encodes view h)

alert_ask-alert_params : (msg : List ℕ) → HasScalars msg → alert_ask (alert_params msg) ≡ Ok (Act.Alert msg)
alert_ask-alert_params msg h = ap (λ m. Ok (Act.Alert m)) (chars-encodes msg h)

-- what an act asks that is named by its method and has its params
plugin_act-ask : (act : Act) → IsAsk act → IsHeldAct act → IsTakenAct act → plugin_act (ask_method act) (ask_params act) ≡ act
unfolding encode
plugin_act-ask (Act.PluginEdit view rev delta priority after_cursor author named) ask h k = ap or_bad_params (edit_ask-edit_params view rev delta priority after_cursor author named h k)
plugin_act-ask (Act.GetData view rev start max) ask h k = ap or_bad_params (data_ask-data_params view rev start max h.0 k)
plugin_act-ask (Act.UpdateSpans view rev start len spans) ask h k = ap or_bad_params (spans_ask-spans_params view rev start len spans h k)
plugin_act-ask (Act.LineCount view) ask h k = ap or_bad_params (count_ask-count_params view h)
plugin_act-ask (Act.Alert msg) ask h k = ap or_bad_params (alert_ask-alert_params msg h)
plugin_act-ask (Act.Ack view rev) ask h k = ap or_bad_params (ack_ask-ack_params view rev h.0 k)
plugin_act-ask (Act.Bad fault) ask h k = absurd ask
plugin_act-ask Act.Nothing ask h k = absurd ask
plugin_act-ask (Act.Configure changes) ask h k = absurd ask
plugin_act-ask (Act.NewView path) ask h k = absurd ask
plugin_act-ask (Act.CloseView view) ask h k = absurd ask
plugin_act-ask (Act.Save view path) ask h k = absurd ask
plugin_act-ask (Act.Edit view act) ask h k = absurd ask
plugin_act-ask Act.Ended ask h k = absurd ask
plugin_act-ask Act.Closing ask h k = absurd ask

-- ---- a command

member_id-number : (z : ℤ) → IsWireNumber z → member_id (Some (id_number z)) ≡ Some (Num z)
member_id-number (pos n) h = ap (λ b. member_id (Some (cond b (number (unsigned n)) null))) (lt-ltb n (2 ^ 64) (omega (arith, ints, h)))
member_id-number (negsuc n) h = ap (λ b. member_id (Some (cond b (number (negative (negsuc n))) null))) (lt-ltb n (2 ^ 63) (omega (arith, ints, h)))

-- the request of these parts
request_of-parts : (id : Id) (method : List ℕ) (params : Data) → IsWireId id → IsTextId id → HasScalars method
    → request_of (object (after_if (codes "id") (id_member id) (member (codes "method") (text_data method) (member (codes "params") params no_members))))
    ≡ Some (record { id = id; method = method; params = params })
unfolding request_of
request_of-parts NoId method params h k m = ap (λ t. Some (record { id = NoId; method = t; params = params })) (chars-encodes method m)
request_of-parts (Num z) method params h k m =
    ap (option_map (λ i. record { id = i; method = chars (encode_utf8_all method); params = params })) (member_id-number z h)
    ∙ ap (λ t. Some (record { id = Num z; method = t; params = params })) (chars-encodes method m)
request_of-parts (Word text) method params h k m =
    ap (λ t. Some (record { id = Word t; method = chars (encode_utf8_all method); params = params })) (chars-encodes text k)
    ∙ ap (λ t. Some (record { id = Word text; method = t; params = params })) (chars-encodes method m)

pub ask_of-command : (command : Command) (line : List ℕ) → IsLineOf (command_data command) line → IsAsk command.act → IsHeldCommand command → IsTakenCommand command → ask_of line ≡ command
unfolding ask_of line_request
ask_of-command command line is ask h k =
    ap (λ o. ask_from (value_request o)) is.reads
    ∙ ap (λ o. ask_from (or_refusal no_request o)) (request_of-parts command.id (ask_method command.act) (ask_params command.act) k.id h.id (ask_method-scalars command.act ask))
    ∙ ap (λ act. record { id = command.id; act = act }) (plugin_act-ask command.act ask h.act k.act)

pub commands_read_back : CommandsReadBack
commands_read_back command ask h k =
    let is = IsLineOf-command command ask h in
    (record { written = is; asks = ask_of-command command _ is ask h k }, (IsPlain-command command ask h).shallow)
