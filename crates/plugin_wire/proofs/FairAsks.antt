-- What a line asks has texts of Unicode, offsets in range, and spans within their length.
use Rattle.std.proofs.Common.{◌≡◌, ℕ, ◌<◌, ◌^◌, List, ◌∷◌, Bool, true, false, cond, Option, Some, None, Result, Ok, Err, IfOk, IfSome, Ordering, Less, Equal, Greater, nat_cmp, option_map, option_and_then, codes, refl, sym, subst}
use Rattle.std.specs.Prelude.{◌&&◌, nat_lt, nat_le}
use Rattle.std.specs.Cmp.Lexicographic.{slice_cmp}
use Rattle.std.specs.List.{AllByRecursion}
use Rattle.std.specs.Ordering.{match_ordering}
use Rattle.std.proofs.lemmas.Bool.{ltb-true, leb-true, and_parts}
use Rattle.std.proofs.lemmas.Str.{scalars-chars}
use Rattle.plain_edits.specs.declared.delta.El.{El}
use Rattle.plain_edits.specs.declared.delta.El.TheVariants.{Copy, Insert}
use Rattle.plain_edits.specs.declared.style.Style.{Style}
use Rattle.xi_plain.specs.declared.command.Act.{Act}
use Rattle.serde_json.specs.Data.{Data, null, boolean, number, string, array, object, unsigned, negative, float, Items, no_items, item, Members, no_members, member}
use Rattle.serde_json.specs.Find.{get, get_member}
use Rattle.json_rpc.specs.Proper.{IsProper, AreProper, HasProper}
use Rattle.json_rpc.specs.Request.{Request, IsAsked}
use Rattle.plugin_wire.specs.declared.method.Method.{Method}
use Rattle.plugin_wire.specs.declared.member.Member.{Member}
use Rattle.plugin_wire.specs.declared.member.Member.TheVariants.{ViewId, Rev, Delta as DeltaMember, Priority, AfterCursor, Author, UndoGroup, Start, MaxSize, Len, Spans, Msg}
use Rattle.plugin_wire.specs.Shapes.{whole_shape, text_shape, member_shape, style_shape, each_shape, list_shape, copy_items, copy_shape, el_from, el_shape, delta_from, delta_shape, span_from, span_shape, spans_shape}
use Rattle.plugin_wire.specs.Asked.{member_name, text_member, whole_member, priority_member, caret_member, group_member, delta_member, spans_member, with_member, method_ask, or_bad_params, plugin_act_of, plugin_act, request_ask}
use Rattle.plugin_wire.specs.Fair.{HasScalars, IsFairEl, IsFairDelta}
use Rattle.plugin_wire.specs.FairAsk.{IsSpanWithin, IsFairAsk, IsFairCommand}

-- ---- members of proper values are proper

either_proper : (o : Ordering) (a b : Option Data) → IfSome a IsProper → IfSome b IsProper → IfSome (match_ordering o a b a) IsProper
either_proper Less a b h k = h
either_proper Equal a b h k = k
either_proper Greater a b h k = h

member_proper : (name : List ℕ) (ms : Members) → HasProper ms → IfSome (get_member name ms) IsProper
member_proper name no_members h = tt
member_proper name (member l e ms) h = either_proper (slice_cmp nat_cmp name l) (get_member name ms) (Some e) (member_proper name ms h.3) h.1

get_proper : (name : List ℕ) (d : Data) → IsProper d → IfSome (get name d) IsProper
get_proper name null h = tt
get_proper name (boolean b) h = tt
get_proper name (number n) h = tt
get_proper name (string s) h = tt
get_proper name (array ds) h = tt
get_proper name (object ms) h = member_proper name ms h

-- ---- what is read of proper values

-- what is read of a member, where each value of the shape is as it should be
read_member : {A : Type 0} (shape : Data → Option A) (P : A → Type 0) → ((d : Data) → IsProper d → IfSome (shape d) P) → (m : Option Data) → IfSome m IsProper → IfSome (option_and_then shape m) P
read_member shape P reads None h = tt
read_member shape P reads (Some d) h = reads d h

read_each : {A : Type 0} (o : Option A) (r : Option (List A)) (P : A → Type 0) → IfSome o P → IfSome r (AllByRecursion P) → IfSome (option_and_then (λ x. option_map (λ xs. x ∷ xs) r) o) (AllByRecursion P)
read_each None r P h k = tt
read_each (Some x) None P h k = tt
read_each (Some x) (Some xs) P h k = (h, k)

each_fair : {A : Type 0} (shape : Data → Option A) (P : A → Type 0) → ((d : Data) → IsProper d → IfSome (shape d) P) → (ds : Items) → AreProper ds → IfSome (each_shape shape ds) (AllByRecursion P)
each_fair shape P reads no_items h = tt
each_fair shape P reads (item d ds) h = read_each (shape d) (each_shape shape ds) P (reads d h.0) (each_fair shape P reads ds h.1)

list_fair : {A : Type 0} (shape : Data → Option A) (P : A → Type 0) → ((d : Data) → IsProper d → IfSome (shape d) P) → (d : Data) → IsProper d → IfSome (list_shape shape d) (AllByRecursion P)
list_fair shape P reads null h = tt
list_fair shape P reads (boolean b) h = tt
list_fair shape P reads (number n) h = tt
list_fair shape P reads (string s) h = tt
list_fair shape P reads (array ds) h = each_fair shape P reads ds h
list_fair shape P reads (object ms) h = tt

text_fair : (d : Data) → IsProper d → IfSome (text_shape d) HasScalars
text_fair null h = tt
text_fair (boolean b) h = tt
text_fair (number n) h = tt
text_fair (string s) h = scalars-chars s h
text_fair (array ds) h = tt
text_fair (object ms) h = tt

under_limit : (limit n : ℕ) (b : Bool) → nat_lt n limit ≡ b → IfSome (cond b (Some n) None) (λ m. m < limit)
under_limit limit n true is = ltb-true n limit is
under_limit limit n false is = tt

whole_fair : (limit : ℕ) (d : Data) → IfSome (whole_shape limit d) (λ n. n < limit)
whole_fair limit null = tt
whole_fair limit (boolean b) = tt
whole_fair limit (number (unsigned n)) = under_limit limit n (nat_lt n limit) refl
whole_fair limit (number (negative z)) = tt
whole_fair limit (number (float x)) = tt
whole_fair limit (string s) = tt
whole_fair limit (array ds) = tt
whole_fair limit (object ms) = tt

-- ---- deltas

copy_fair : (limit : ℕ) (o r : Option ℕ) → IfSome o (λ n. n < limit) → IfSome r (λ n. n < limit) → IfSome (option_and_then (λ from. option_map (Copy from) r) o) (IsFairEl limit)
copy_fair limit None r h k = tt
copy_fair limit (Some a) None h k = tt
copy_fair limit (Some a) (Some b) h k = (h, k)

copy_items_fair : (limit : ℕ) (ds : Items) → IfSome (copy_items limit ds) (IsFairEl limit)
copy_items_fair limit no_items = tt
copy_items_fair limit (item a no_items) = tt
copy_items_fair limit (item a (item b no_items)) = copy_fair limit (whole_shape limit a) (whole_shape limit b) (whole_fair limit a) (whole_fair limit b)
copy_items_fair limit (item a (item b (item c ds))) = tt

copy_shape_fair : (limit : ℕ) (d : Data) → IfSome (copy_shape limit d) (IsFairEl limit)
copy_shape_fair limit null = tt
copy_shape_fair limit (boolean b) = tt
copy_shape_fair limit (number n) = tt
copy_shape_fair limit (string s) = tt
copy_shape_fair limit (array ds) = copy_items_fair limit ds
copy_shape_fair limit (object ms) = tt

inserted_fair : (limit : ℕ) (text : Option (List ℕ)) → IfSome text HasScalars → IfSome (option_map Insert text) (IsFairEl limit)
inserted_fair limit None h = tt
inserted_fair limit (Some text) h = h

el_fair : (limit : ℕ) (copy insert : Option Data) → IfSome insert IsProper → IfSome (el_from (option_map (copy_shape limit) copy) (option_map text_shape insert)) (IsFairEl limit)
el_fair limit None None h = tt
el_fair limit (Some c) None h = copy_shape_fair limit c
el_fair limit None (Some d) h = inserted_fair limit (text_shape d) (text_fair d h)
el_fair limit (Some c) (Some d) h = tt

el_shape_fair : (limit : ℕ) (d : Data) → IsProper d → IfSome (el_shape limit d) (IsFairEl limit)
el_shape_fair limit d h = el_fair limit (get (codes "copy") d) (get (codes "insert") d) (get_proper (codes "insert") d h)

delta_parts_fair : (limit : ℕ) (n : Option ℕ) (els : Option (List El)) → IfSome n (λ m. m < limit) → IfSome els (AllByRecursion (IsFairEl limit)) → IfSome (delta_from n els) (IsFairDelta limit)
delta_parts_fair limit None els h k = tt
delta_parts_fair limit (Some n) None h k = tt
delta_parts_fair limit (Some n) (Some els) h k = record { base_len = h; els = k }

delta_shape_fair : (limit : ℕ) (d : Data) → IsProper d → IfSome (delta_shape limit d) (IsFairDelta limit)
delta_shape_fair limit d h =
    delta_parts_fair limit _ _
    (read_member (whole_shape limit) (λ n. n < limit) (λ e p. whole_fair limit e) (get (codes "base_len") d) (get_proper (codes "base_len") d h))
    (read_member (list_shape (el_shape limit)) (AllByRecursion (IsFairEl limit)) (list_fair (el_shape limit) (IsFairEl limit) (el_shape_fair limit)) (get (codes "els") d) (get_proper (codes "els") d h))

-- ---- spans

within : (a b len : ℕ) (style : Style) (x : Bool) → (nat_le a b && nat_le b len) ≡ x → IfSome (cond x (Some (record { start = a; end = b; style = style })) None) (IsSpanWithin len)
within a b len style true is =
    let parts = and_parts (nat_le a b) (nat_le b len) is in
    record { ordered = leb-true a b parts.0; within = leb-true b len parts.1 }
within a b len style false is = tt

span_fair : (len : ℕ) (start end : Option ℕ) (style : Option Style) → IfSome (span_from len start end style) (IsSpanWithin len)
span_fair len None end style = tt
span_fair len (Some a) None style = tt
span_fair len (Some a) (Some b) None = tt
span_fair len (Some a) (Some b) (Some style) = within a b len style (nat_le a b && nat_le b len) refl

spans_shape_fair : (len : ℕ) (d : Data) → IsProper d → IfSome (spans_shape len d) (AllByRecursion (IsSpanWithin len))
spans_shape_fair len d h = list_fair (span_shape len) (IsSpanWithin len) (λ e p. span_fair len (member_shape (whole_shape (2 ^ 63)) (codes "start") e) (member_shape (whole_shape (2 ^ 63)) (codes "end") e) (member_shape style_shape (codes "style") e)) d h

-- ---- acts

with_fair : {A : Type 0} (m : Member) (x : Option A) (next : A → Result Act Member) (P : A → Type 0) → IfSome x P → ((a : A) → P a → IfOk (next a) IsFairAsk) → IfOk (with_member m x next) IsFairAsk
with_fair m None next P h k = tt
with_fair m (Some a) next P h k = k a h

-- a member of which nothing is said
with_any : {A : Type 0} (m : Member) (x : Option A) (next : A → Result Act Member) → ((a : A) → IfOk (next a) IsFairAsk) → IfOk (with_member m x next) IsFairAsk
with_any m None next k = tt
with_any m (Some a) next k = k a

text_member_fair : (m : Member) (params : Data) → IsProper params → IfSome (text_member m params) HasScalars
text_member_fair m params h = read_member text_shape HasScalars text_fair (get (member_name m) params) (get_proper (member_name m) params h)

delta_member_fair : (params : Data) → IsProper params → IfSome (delta_member params) (IsFairDelta (2 ^ 63))
delta_member_fair params h =
    read_member (delta_shape (2 ^ 63)) (IsFairDelta (2 ^ 63)) (delta_shape_fair (2 ^ 63)) (get (member_name DeltaMember) params) (get_proper (member_name DeltaMember) params h)

spans_asked : (view : List ℕ) (rev start : ℕ) (len : Option ℕ) (params : Data) → HasScalars view → IsProper params
    → IfOk (with_member Len len (λ n. with_member Spans (spans_member len params) (λ l. Ok (Act.UpdateSpans view rev start n l)))) IsFairAsk
spans_asked view rev start None params h k = tt
spans_asked view rev start (Some n) params h k =
    with_fair Spans (spans_member (Some n) params) _ (AllByRecursion (IsSpanWithin n))
    (read_member (spans_shape n) (AllByRecursion (IsSpanWithin n)) (spans_shape_fair n) (get (member_name Spans) params) (get_proper (member_name Spans) params k))
    (λ l all. (h, all))

method_ask_fair : (method : Method) (params : Data) → IsProper params → IfOk (method_ask method params) IsFairAsk
method_ask_fair Method.Ack params h =
    with_fair ViewId (text_member ViewId params) _ HasScalars (text_member_fair ViewId params h) (λ v text. with_any Rev (whole_member Rev params) _ (λ r. text))
method_ask_fair Method.Alert params h = with_fair Msg (text_member Msg params) _ HasScalars (text_member_fair Msg params h) (λ msg text. text)
method_ask_fair Method.Edit params h =
    with_fair ViewId (text_member ViewId params) _ HasScalars (text_member_fair ViewId params h) (λ v id.
    with_any Rev (whole_member Rev params) _ (λ r.
    with_fair DeltaMember (delta_member params) _ (IsFairDelta (2 ^ 63)) (delta_member_fair params h) (λ d delta.
    with_any Priority (priority_member params) _ (λ p.
    with_any AfterCursor (caret_member params) _ (λ a.
    with_fair Author (text_member Author params) _ HasScalars (text_member_fair Author params h) (λ w text.
    with_any UndoGroup (group_member params) _ (λ g. (id, delta, text))))))))
method_ask_fair Method.GetData params h =
    with_fair ViewId (text_member ViewId params) _ HasScalars (text_member_fair ViewId params h) (λ v text.
    with_any Rev (whole_member Rev params) _ (λ r. with_any Start (whole_member Start params) _ (λ s. with_any MaxSize (whole_member MaxSize params) _ (λ m. text))))
method_ask_fair Method.LineCount params h = with_fair ViewId (text_member ViewId params) _ HasScalars (text_member_fair ViewId params h) (λ v text. text)
method_ask_fair Method.UpdateSpans params h =
    with_fair ViewId (text_member ViewId params) _ HasScalars (text_member_fair ViewId params h) (λ v text.
    with_any Rev (whole_member Rev params) _ (λ r. with_any Start (whole_member Start params) _ (λ s. spans_asked v r s (whole_member Len params) params text h)))

member_name-scalars : (m : Member) → HasScalars (member_name m)
member_name-scalars ViewId = refl
member_name-scalars Rev = refl
member_name-scalars DeltaMember = refl
member_name-scalars Priority = refl
member_name-scalars AfterCursor = refl
member_name-scalars Author = refl
member_name-scalars UndoGroup = refl
member_name-scalars Start = refl
member_name-scalars MaxSize = refl
member_name-scalars Len = refl
member_name-scalars Spans = refl
member_name-scalars Msg = refl

or_bad_params_fair : (r : Result Act Member) → IfOk r IsFairAsk → IsFairAsk (or_bad_params r)
or_bad_params_fair (Ok act) h = h
or_bad_params_fair (Err m) h = member_name-scalars m

plugin_act_fair : (method : Option Method) (name : List ℕ) (params : Data) → HasScalars name → IsProper params → IsFairAsk (plugin_act_of method name params)
plugin_act_fair None name params h k = h
plugin_act_fair (Some method) name params h k = or_bad_params_fair (method_ask method params) (method_ask_fair method params k)

-- what a request asks that a line is
pub IsFairCommand-request_ask : (r : Request) → IsAsked r → IsFairCommand (request_ask r)
IsFairCommand-request_ask r h = record { number = h.id_fits; word = h.id_text; ask = plugin_act_fair _ r.method r.params h.method h.params }

-- the same, of the act that was made
pub fair_command : (r : Request) (act : Act) → IsAsked r → act ≡ plugin_act r.method r.params → IsFairCommand (record { id = r.id; act = act })
fair_command r act h is = subst (λ a. IsFairCommand (record { id = r.id; act = a })) (sym is) (IsFairCommand-request_ask r h)
