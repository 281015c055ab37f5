-- What a line of a plugin asks is in numbers that a line holds, so the line that is written of it asks it again.
use Rattle.std.proofs.Common.{◌≡◌, ℕ, ◌<◌, ◌^◌, List, [], ◌∷◌, Bool, true, false, cond, Option, Some, None, Result, Ok, Err, IfOk, IfSome, Ordering, Less, Equal, Greater, nat_cmp, option_map, option_and_then, codes, refl, inl, inr, arith}
use Rattle.std.specs.Prelude.{◌&&◌, ◌⊎◌, nat_lt, nat_le, ⊤}
use Rattle.std.specs.Cmp.Lexicographic.{slice_cmp}
use Rattle.std.specs.List.{AllByRecursion}
use Rattle.std.specs.Ordering.{match_ordering}
use Rattle.std.proofs.lemmas.Bool.{ltb-true, leb-true, and_parts}
use Rattle.std.proofs.lemmas.Str.{scalars-chars}
use Rattle.plain_edits.specs.declared.delta.El.{El}
use Rattle.plain_edits.specs.declared.delta.El.TheVariants.{Copy, Insert}
use Rattle.plain_edits.specs.declared.style.Style.{Style}
use Rattle.xi_plain.specs.declared.span.WireSpan.{WireSpan}
use Rattle.xi_plain.specs.declared.command.Act.{Act}
use Rattle.xi_plain.specs.declared.command.Fault.{Fault}
use Rattle.serde_json.specs.Data.{Data, null, boolean, number, string, array, object, unsigned, negative, float, Items, no_items, item, Members, no_members, member}
use Rattle.serde_json.specs.Find.{get, get_member}
use Rattle.json_rpc.specs.Laws.{RequestsAreAsked}
use Rattle.json_rpc.specs.Proper.{IsProper, AreProper, HasProper}
use Rattle.json_rpc.specs.Request.{Request, IsAsked, LineRefusal, no_reading, no_request, line_request}
use Rattle.plugin_wire.specs.declared.method.Method.{Method}
use Rattle.plugin_wire.specs.declared.member.Member.{Member}
use Rattle.plugin_wire.specs.declared.member.Member.TheVariants.{ViewId, Rev, Delta as DeltaMember, Priority, AfterCursor, Author, UndoGroup, Start, MaxSize, Len, Spans, Msg}
use Rattle.plugin_wire.specs.Shapes.{whole_shape, text_shape, member_shape, given, shape_if_any, optional_shape, style_from, style_shape, each_shape, list_shape, copy_items, copy_shape, el_from, el_shape, delta_from, delta_shape, span_from, span_shape, spans_shape}
use Rattle.plugin_wire.specs.Asked.{ask_from, ask_of, member_name, text_member, whole_member, priority_member, caret_member, group_member, delta_member, spans_member, with_member, method_ask, or_bad_params, plugin_act_of, plugin_act, request_ask}
use Rattle.plugin_wire.specs.Fair.{HasScalars, IsFairEl, IsFairDelta}
use Rattle.plugin_side.specs.Asking.{IsAsk}
use Rattle.plugin_side.specs.Laws.{IsAskedAgain, LinesAreAskedAgain}
use Rattle.plugin_side.specs.Range.{IsUnder, IsHeldStyle, IsHeldSpan, IsHeldAct, IsTakenEl, IsTakenSpan, IsTakenAct}
use Rattle.plugin_side.proofs.ReadBack.{commands_read_back}

-- ---- members of proper values are proper

either_proper : (o : Ordering) (a b : Option Data) → IfSome a IsProper → IfSome b IsProper → IfSome (match_ordering o a b a) IsProper
either_proper Less a b h k = h
either_proper Equal a b h k = k
either_proper Greater a b h k = h

member_proper : (name : List ℕ) (ms : Members) → HasProper ms → IfSome (get_member name ms) IsProper
member_proper name no_members h = tt
member_proper name (member l e ms) h = either_proper (slice_cmp nat_cmp name l) (get_member name ms) (Some e) (member_proper name ms h.3) h.1

get_proper : (name : List ℕ) (d : Data) → IsProper d → IfSome (get name d) IsProper
get_proper name null h = tt
get_proper name (boolean b) h = tt
get_proper name (number n) h = tt
get_proper name (string s) h = tt
get_proper name (array ds) h = tt
get_proper name (object ms) h = member_proper name ms h

-- ---- what is read of proper values

read_member : {A : Type 0} (shape : Data → Option A) (P : A → Type 0) → ((d : Data) → IsProper d → IfSome (shape d) P) → (m : Option Data) →
    IfSome m IsProper → IfSome (option_and_then shape m) P
read_member shape P reads None h = tt
read_member shape P reads (Some d) h = reads d h

read_each : {A : Type 0} (o : Option A) (r : Option (List A)) (P : A → Type 0) → IfSome o P → IfSome r (AllByRecursion P) →
    IfSome (option_and_then (λ x. option_map (λ xs. x ∷ xs) r) o) (AllByRecursion P)
read_each None r P h k = tt
read_each (Some x) None P h k = tt
read_each (Some x) (Some xs) P h k = (h, k)

each_read : {A : Type 0} (shape : Data → Option A) (P : A → Type 0) → ((d : Data) → IsProper d → IfSome (shape d) P) → (ds : Items) →
    AreProper ds → IfSome (each_shape shape ds) (AllByRecursion P)
each_read shape P reads no_items h = tt
each_read shape P reads (item d ds) h = read_each (shape d) (each_shape shape ds) P (reads d h.0) (each_read shape P reads ds h.1)

list_read : {A : Type 0} (shape : Data → Option A) (P : A → Type 0) → ((d : Data) → IsProper d → IfSome (shape d) P) → (d : Data) →
    IsProper d → IfSome (list_shape shape d) (AllByRecursion P)
list_read shape P reads null h = tt
list_read shape P reads (boolean b) h = tt
list_read shape P reads (number n) h = tt
list_read shape P reads (string s) h = tt
list_read shape P reads (array ds) h = each_read shape P reads ds h
list_read shape P reads (object ms) h = tt

text_read : (d : Data) → IsProper d → IfSome (text_shape d) HasScalars
text_read null h = tt
text_read (boolean b) h = tt
text_read (number n) h = tt
text_read (string s) h = scalars-chars s h
text_read (array ds) h = tt
text_read (object ms) h = tt

under_limit : (limit n : ℕ) (b : Bool) → nat_lt n limit ≡ b → IfSome (cond b (Some n) None) (λ m. m < limit)
under_limit limit n true is = ltb-true n limit is
under_limit limit n false is = tt

whole_read : (limit : ℕ) (d : Data) → IfSome (whole_shape limit d) (λ n. n < limit)
whole_read limit null = tt
whole_read limit (boolean b) = tt
whole_read limit (number (unsigned n)) = under_limit limit n (nat_lt n limit) refl
whole_read limit (number (negative z)) = tt
whole_read limit (number (float x)) = tt
whole_read limit (string s) = tt
whole_read limit (array ds) = tt
whole_read limit (object ms) = tt

some_under : (limit : ℕ) (o : Option ℕ) → IfSome o (λ n. n < limit) → IfSome (option_map Some o) (IsUnder limit)
some_under limit None h = tt
some_under limit (Some n) h = h

any_under : (limit : ℕ) (m : Option Data) → IfSome (shape_if_any (whole_shape limit) m) (IsUnder limit)
any_under limit None = tt
any_under limit (Some d) = some_under limit (whole_shape limit d) (whole_read limit d)

-- a number that may be left out
optional_read : (limit : ℕ) (m : Option Data) → IfSome (optional_shape (whole_shape limit) m) (IsUnder limit)
optional_read limit m = any_under limit (given m)

-- ---- deltas

copy_read : (limit : ℕ) (o r : Option ℕ) → IfSome o (λ n. n < limit) → IfSome r (λ n. n < limit) →
    IfSome (option_and_then (λ from. option_map (Copy from) r) o) (IsFairEl limit)
copy_read limit None r h k = tt
copy_read limit (Some a) None h k = tt
copy_read limit (Some a) (Some b) h k = (h, k)

copy_items_read : (limit : ℕ) (ds : Items) → IfSome (copy_items limit ds) (IsFairEl limit)
copy_items_read limit no_items = tt
copy_items_read limit (item a no_items) = tt
copy_items_read limit (item a (item b no_items)) =
    copy_read limit (whole_shape limit a) (whole_shape limit b) (whole_read limit a) (whole_read limit b)
copy_items_read limit (item a (item b (item c ds))) = tt

copy_shape_read : (limit : ℕ) (d : Data) → IfSome (copy_shape limit d) (IsFairEl limit)
copy_shape_read limit null = tt
copy_shape_read limit (boolean b) = tt
copy_shape_read limit (number n) = tt
copy_shape_read limit (string s) = tt
copy_shape_read limit (array ds) = copy_items_read limit ds
copy_shape_read limit (object ms) = tt

insert_read : (limit : ℕ) (text : Option (List ℕ)) → IfSome text HasScalars → IfSome (option_map Insert text) (IsFairEl limit)
insert_read limit None h = tt
insert_read limit (Some text) h = h

el_read : (limit : ℕ) (copy insert : Option Data) → IfSome insert IsProper →
    IfSome (el_from (option_map (copy_shape limit) copy) (option_map text_shape insert)) (IsFairEl limit)
el_read limit None None h = tt
el_read limit (Some c) None h = copy_shape_read limit c
el_read limit None (Some d) h = insert_read limit (text_shape d) (text_read d h)
el_read limit (Some c) (Some d) h = tt

el_shape_read : (limit : ℕ) (d : Data) → IsProper d → IfSome (el_shape limit d) (IsFairEl limit)
el_shape_read limit d h = el_read limit (get (codes "copy") d) (get (codes "insert") d) (get_proper (codes "insert") d h)

delta_read : (limit : ℕ) (n : Option ℕ) (els : Option (List El)) → IfSome n (λ m. m < limit) → IfSome els (AllByRecursion (IsFairEl limit)) →
    IfSome (delta_from n els) (IsFairDelta limit)
delta_read limit None els h k = tt
delta_read limit (Some n) None h k = tt
delta_read limit (Some n) (Some els) h k = record { base_len = h; els = k }

delta_shape_read : (limit : ℕ) (d : Data) → IsProper d → IfSome (delta_shape limit d) (IsFairDelta limit)
delta_shape_read limit d h =
    delta_read limit _ _
    (read_member (whole_shape limit) (λ n. n < limit) (λ e p. whole_read limit e) (get (codes "base_len") d) (get_proper (codes "base_len") d h))
    (read_member (list_shape (el_shape limit)) (AllByRecursion (IsFairEl limit)) (list_read (el_shape limit) (IsFairEl limit) (el_shape_read limit))
    (get (codes "els") d) (get_proper (codes "els") d h))

far : (n : ℕ) → n < 2 ^ 63 → n < 2 ^ 64
far n h = omega (arith, h)

far_el : (el : El) → IsFairEl (2 ^ 63) el → IsFairEl (2 ^ 64) el
far_el (Copy a b) h = (far a h.0, far b h.1)
far_el (Insert text) h = h

far_els : (els : List El) → AllByRecursion (IsFairEl (2 ^ 63)) els → AllByRecursion (IsFairEl (2 ^ 64)) els
far_els [] h = tt
far_els (el ∷ els) h = (far_el el h.0, far_els els h.1)

taken_el : (el : El) → IsFairEl (2 ^ 63) el → IsTakenEl el
taken_el (Copy a b) h = h
taken_el (Insert text) h = tt

taken_els : (els : List El) → AllByRecursion (IsFairEl (2 ^ 63)) els → AllByRecursion IsTakenEl els
taken_els [] h = tt
taken_els (el ∷ els) h = (taken_el el h.0, taken_els els h.1)

-- ---- spans

record IsStyleRead (style : Style) : Type 0 where
  held : IsHeldStyle style
  light : IsUnder 1001 style.weight

under_any_weight : (weight : Option ℕ) → IsUnder 1001 weight → IsUnder (2 ^ 32) weight
under_any_weight None h = tt
under_any_weight (Some n) h = omega (arith, h)

style_read : (fg bg weight : Option (Option ℕ)) (italic underline : Option (Option Bool)) → IfSome fg (IsUnder (2 ^ 32)) → IfSome bg (IsUnder (2 ^ 32)) →
    IfSome weight (IsUnder 1001) → IfSome (style_from fg bg weight italic underline) IsStyleRead
style_read None bg weight italic underline f b w = tt
style_read (Some fg) None weight italic underline f b w = tt
style_read (Some fg) (Some bg) None italic underline f b w = tt
style_read (Some fg) (Some bg) (Some weight) None underline f b w = tt
style_read (Some fg) (Some bg) (Some weight) (Some italic) None f b w = tt
style_read (Some fg) (Some bg) (Some weight) (Some italic) (Some underline) f b w =
    record { held = record { fg_color = f; bg_color = b; weight = under_any_weight weight w }; light = w }

style_shape_read : (d : Data) → IfSome (style_shape d) IsStyleRead
style_shape_read null = tt
style_shape_read (boolean b) = tt
style_shape_read (number n) = tt
style_shape_read (string s) = tt
style_shape_read (array ds) = tt
style_shape_read (object ms) =
    style_read _ _ _ _ _ (optional_read (2 ^ 32) (get (codes "fg_color") (object ms))) (optional_read (2 ^ 32) (get (codes "bg_color") (object ms)))
    (optional_read 1001 (get (codes "weight") (object ms)))

record IsSpanRead (len : ℕ) (span : WireSpan) : Type 0 where
  held : IsHeldSpan span
  taken : IsTakenSpan len span

within : (a b len : ℕ) (style : Style) → a < 2 ^ 63 → b < 2 ^ 63 → IsStyleRead style → (x : Bool) → (nat_le a b && nat_le b len) ≡ x →
    IfSome (cond x (Some (record { start = a; end = b; style = style })) None) (IsSpanRead len)
within a b len style h k s true is =
    let parts = and_parts (nat_le a b) (nat_le b len) is in
    record {
      held = record { start = far a h; end = far b k; style = s.held };
      taken = record { ordered = leb-true a b parts.0; within = leb-true b len parts.1; weight = s.light };
    }
within a b len style h k s false is = tt

span_read : (len : ℕ) (start end : Option ℕ) (style : Option Style) → IfSome start (λ n. n < 2 ^ 63) → IfSome end (λ n. n < 2 ^ 63) →
    IfSome style IsStyleRead → IfSome (span_from len start end style) (IsSpanRead len)
span_read len None end style h k s = tt
span_read len (Some a) None style h k s = tt
span_read len (Some a) (Some b) None h k s = tt
span_read len (Some a) (Some b) (Some style) h k s = within a b len style h k s (nat_le a b && nat_le b len) refl

span_shape_read : (len : ℕ) (d : Data) → IsProper d → IfSome (span_shape len d) (IsSpanRead len)
span_shape_read len d h =
    let number = λ (name : List ℕ). read_member (whole_shape (2 ^ 63)) (λ n. n < 2 ^ 63) (λ e p. whole_read (2 ^ 63) e) (get name d) (get_proper name d h) in
    span_read len _ _ _ (number (codes "start")) (number (codes "end"))
    (read_member style_shape IsStyleRead (λ e p. style_shape_read e) (get (codes "style") d) (get_proper (codes "style") d h))

held_spans : (len : ℕ) (spans : List WireSpan) → AllByRecursion (IsSpanRead len) spans → AllByRecursion IsHeldSpan spans
held_spans len [] h = tt
held_spans len (span ∷ spans) h = (h.0.held, held_spans len spans h.1)

taken_spans : (len : ℕ) (spans : List WireSpan) → AllByRecursion (IsSpanRead len) spans → AllByRecursion (IsTakenSpan len) spans
taken_spans len [] h = tt
taken_spans len (span ∷ spans) h = (h.0.taken, taken_spans len spans h.1)

-- ---- acts

-- the act is refused, or one that a plugin asks
abbrev Asks : Act → Type 0
Asks act = IsAsk act ⊎ ((fault : Fault) × (act ≡ Act.Bad fault))

-- and in the numbers that a line holds
record IsRead (act : Act) : Type 0 where
  asks : Asks act
  held : IsHeldAct act
  taken : IsTakenAct act

with_read : {A : Type 0} (m : Member) (x : Option A) (next : A → Result Act Member) (P : A → Type 0) → IfSome x P → ((a : A) → P a → IfOk (next a) IsRead) →
    IfOk (with_member m x next) IsRead
with_read m None next P h k = tt
with_read m (Some a) next P h k = k a h

module _ (params : Data) (proper : IsProper params) where
  -- an act that begins with a text, or with a number
  with_text : (m : Member) (next : List ℕ → Result Act Member) → ((text : List ℕ) → HasScalars text → IfOk (next text) IsRead) →
      IfOk (with_member m (text_member m params) next) IsRead
  with_text m next k =
      with_read m (text_member m params) next HasScalars
      (read_member text_shape HasScalars text_read (get (member_name m) params) (get_proper (member_name m) params proper)) k

  whole : (limit : ℕ) (m : Member) → IfSome (member_shape (whole_shape limit) (member_name m) params) (λ n. n < limit)
  whole limit m =
      read_member (whole_shape limit) (λ n. n < limit) (λ d p. whole_read limit d) (get (member_name m) params) (get_proper (member_name m) params proper)

  with_number : (m : Member) (next : ℕ → Result Act Member) → ((n : ℕ) → n < 2 ^ 63 → IfOk (next n) IsRead) →
      IfOk (with_member m (whole_member m params) next) IsRead
  with_number m next k = with_read m (whole_member m params) next (λ n. n < 2 ^ 63) (whole (2 ^ 63) m) k

  any : {A : Type 0} (x : Option A) → IfSome x (λ _. ⊤)
  any None = tt
  any (Some a) = tt

  spans : (len : ℕ) → IfSome (spans_member (Some len) params) (AllByRecursion (IsSpanRead len))
  spans len =
      read_member (spans_shape len) (AllByRecursion (IsSpanRead len)) (list_read (span_shape len) (IsSpanRead len) (span_shape_read len))
      (get (member_name Spans) params) (get_proper (member_name Spans) params proper)

  delta : IfSome (delta_member params) (IsFairDelta (2 ^ 63))
  delta =
      read_member (delta_shape (2 ^ 63)) (IsFairDelta (2 ^ 63)) (delta_shape_read (2 ^ 63)) (get (member_name DeltaMember) params)
      (get_proper (member_name DeltaMember) params proper)

  far_group : (named : Option ℕ) → IsUnder (2 ^ 63) named → IsUnder (2 ^ 64) named
  far_group None h = tt
  far_group (Some n) h = far n h

  -- new spans, by what their length is
  spans_asked : (view : List ℕ) (rev start : ℕ) (len : Option ℕ) → HasScalars view → rev < 2 ^ 63 → start < 2 ^ 63 → IfSome len (λ n. n < 2 ^ 63) →
      IfOk (with_member Len len (λ n. with_member Spans (spans_member len params) (λ l. Ok (Act.UpdateSpans view rev start n l)))) IsRead
  spans_asked view rev start None v r s n = tt
  spans_asked view rev start (Some len) v r s n =
      with_read Spans (spans_member (Some len) params) _ (AllByRecursion (IsSpanRead len)) (spans len)
      (λ l all. record {
        asks = inl tt;
        held = (v, far rev r, far start s, far len n, held_spans len l all);
        taken = (r, s, n, taken_spans len l all);
      })

  method_ask_read : (method : Method) → IfOk (method_ask method params) IsRead
  method_ask_read Method.Ack =
      with_text ViewId _ (λ view v. with_number Rev _ (λ rev r. record { asks = inl tt; held = (v, far rev r); taken = r }))
  method_ask_read Method.Alert = with_text Msg _ (λ msg m. record { asks = inl tt; held = m; taken = tt })
  method_ask_read Method.Edit =
      with_text ViewId _ (λ view v. with_number Rev _ (λ rev r.
      with_read DeltaMember (delta_member params) _ (IsFairDelta (2 ^ 63)) delta (λ change d.
      with_read Priority (priority_member params) _ (λ n. n < 2 ^ 32) (whole (2 ^ 32) Priority) (λ priority p.
      with_read AfterCursor (caret_member params) _ (λ _. ⊤) (any (caret_member params)) (λ after a. with_text Author _ (λ author w.
      with_read UndoGroup (group_member params) _ (IsUnder (2 ^ 63)) (optional_read (2 ^ 63) (get (member_name UndoGroup) params)) (λ named g. record {
        asks = inl tt;
        held = (v, far rev r, record { base_len = far change.base_len d.base_len; els = far_els change.els d.els }, p, w, far_group named g);
        taken = (r, record { base_len = d.base_len; els = taken_els change.els d.els }, g);
      })))))))
  method_ask_read Method.GetData =
      with_text ViewId _ (λ view v. with_number Rev _ (λ rev r. with_number Start _ (λ start s. with_number MaxSize _ (λ max m.
      record { asks = inl tt; held = (v, far rev r, far start s, far max m); taken = (r, s, m) }))))
  method_ask_read Method.LineCount = with_text ViewId _ (λ view v. record { asks = inl tt; held = v; taken = tt })
  method_ask_read Method.UpdateSpans =
      with_text ViewId _ (λ view v. with_number Rev _ (λ rev r. with_number Start _ (λ start s.
      spans_asked view rev start (whole_member Len params) v r s (whole (2 ^ 63) Len))))

or_bad_params_read : (r : Result Act Member) → IfOk r IsRead → IsRead (or_bad_params r)
or_bad_params_read (Ok act) h = h
or_bad_params_read (Err m) h = record { asks = inr (_, refl); held = tt; taken = tt }

plugin_act_read : (method : Option Method) (name : List ℕ) (params : Data) → IsProper params → IsRead (plugin_act_of method name params)
plugin_act_read None name params h = record { asks = inr (_, refl); held = tt; taken = tt }
plugin_act_read (Some method) name params h = or_bad_params_read (method_ask method params) (method_ask_read params h method)

-- ---- lines

module _ (asked : RequestsAreAsked) where
  by_request : (r : Request) → IsAsked r → IsAskedAgain (request_ask r)
  by_request r h =
      let act = plugin_act r.method r.params in let read = plugin_act_read _ r.method r.params h.params in
      elim read.asks [
        | inl asks ↦
            let again = commands_read_back (request_ask r) asks (record { id = h.id_text; act = read.held }) (record { id = h.id_fits; act = read.taken }) in
            inl (asks, again.0.asks)
        | inr refused ↦ inr refused
      ]

  by_line : (line : List ℕ) (r : Result Request LineRefusal) → line_request line ≡ r → IsAskedAgain (ask_from r)
  by_line line (Ok r) is = by_request r (asked line r is)
  by_line line (Err no_reading) is = inr (_, refl)
  by_line line (Err no_request) is = inr (_, refl)

  pub lines_are_asked_again : LinesAreAskedAgain
  unfolding ask_of
  lines_are_asked_again line = by_line line (line_request line) refl
