-- The values of commands are proper, have no float and nest a few levels deep, so each has its line.
use Rattle.std.proofs.Common.{◌≡◌, ℕ, ◌+◌, ◌<◌, ◌≤◌, ◌^◌, ◌||◌, pos, negsuc, ℤ, List, [], ◌∷◌, map, Bool, true, false, cond, Option, Some, None, IfSome, IsUtf8, Less, nat_cmp, option_map, codes, refl, ap, ◌∙◌, arith}
use Rattle.std.specs.Prelude.{nat_lt}
use Rattle.std.specs.Cmp.Lexicographic.{slice_cmp}
use Rattle.std.specs.List.{AllByRecursion}
use Rattle.std.proofs.lemmas.Bool.{ltb-true}
use Rattle.json.proofs.Printed.Utf8.{IsUtf8-are_ascii}
use Rattle.plain_edits.specs.declared.delta.El.{El}
use Rattle.plain_edits.specs.declared.delta.El.TheVariants.{Copy, Insert}
use Rattle.plain_edits.specs.declared.delta.Delta.{Delta}
use Rattle.plain_edits.specs.declared.style.Style.{Style}
use Rattle.xi_plain.specs.declared.span.WireSpan.{WireSpan}
use Rattle.xi_plain.specs.declared.command.Id.{Id}
use Rattle.xi_plain.specs.declared.command.Id.TheVariants.{NoId, Num, Word}
use Rattle.xi_plain.specs.declared.command.Act.{Act}
use Rattle.xi_plain.specs.declared.command.Command.{Command}
use Rattle.serde_json.specs.Data.{Data, unsigned, negative, null, boolean, number, array, object, Members, no_members, member, put, depth, members_depth}
use Rattle.serde_json.specs.View.{items_of}
use Rattle.serde_json.specs.Written.{has_float, members_have_float}
use Rattle.json_rpc.specs.Line.{line_of, IsLineOf}
use Rattle.json_rpc.specs.Proper.{IsProper, HasProper, IsBelow}
use Rattle.json_rpc.specs.Request.{IsTextId}
use Rattle.json_rpc.specs.Response.{text_data}
use Rattle.json_rpc.proofs.ForCallers.{IsLineOf-line_of}
use Rattle.plugin_wire.specs.Told.{whole_data, el_data, delta_data}
use Rattle.plugin_wire.specs.Fair.{HasScalars, IsFairEl, IsFairDelta}
use Rattle.plugin_side.specs.Inner.{with_if, edit_members, style_members}
use Rattle.plugin_side.specs.Asking.{IsAsk, after_if, edit_params, style_data, span_data, ask_method, ask_params, id_number, id_member, command_data}
use Rattle.plugin_side.specs.Range.{IsUnder, IsHeldStyle, IsHeldSpan, IsHeldAct, IsHeldCommand}

-- a proper value with no float, nested at most n deep
pub record IsPlain (n : ℕ) (d : Data) : Type 0 where
  pub proper : IsProper d
  pub whole : has_float d ≡ false
  pub shallow : depth d ≤ n

-- such members
pub record ArePlain (n : ℕ) (ms : Members) : Type 0 where
  pub proper : HasProper ms
  pub whole : members_have_float ms ≡ false
  pub shallow : members_depth ms ≤ n

neither : (a b : Bool) → a ≡ false → b ≡ false → (a || b) ≡ false
neither false b h k = k
neither true b h k = h

IsPlain-deeper : (n m : ℕ) (d : Data) → n ≤ m → IsPlain n d → IsPlain m d
IsPlain-deeper n m d small h = record { proper = h.proper; whole = h.whole; shallow = omega (arith, small, h.shallow) }

ArePlain-none : (n : ℕ) → ArePlain n no_members
ArePlain-none n = record { proper = tt; whole = refl; shallow = omega arith }

ArePlain-member : (n : ℕ) (k : List ℕ) (d : Data) (ms : Members) → IsUtf8 k → IsBelow k ms → IsPlain n d → ArePlain n ms → ArePlain n (member k d ms)
ArePlain-member n k d ms utf8 below h all = record {
  proper = (utf8, h.proper, below, all.proper);
  whole = neither (has_float d) _ h.whole all.whole;
  shallow = omega (arith, h.shallow, all.shallow);
}

ArePlain-if : (n : ℕ) (k : List ℕ) (o : Option Data) (ms : Members) → IsUtf8 k → IsBelow k ms → IfSome o (IsPlain n) → ArePlain n ms → ArePlain n (after_if k o ms)
ArePlain-if n k None ms utf8 below h all = all
ArePlain-if n k (Some d) ms utf8 below h all = ArePlain-member n k d ms utf8 below h all

-- a name is below one that may be there, and below those after it
pub IsBelow-if : (k l : List ℕ) (o : Option Data) (ms : Members) → slice_cmp nat_cmp k l ≡ Less → IsBelow k ms → IsBelow k (after_if l o ms)
IsBelow-if k l None ms less below = below
IsBelow-if k l (Some d) ms less below = (less, below)

IsPlain-object : (n : ℕ) (ms : Members) → ArePlain n ms → IsPlain (n + 1) (object ms)
IsPlain-object n ms h = record { proper = h.proper; whole = h.whole; shallow = omega (arith, h.shallow) }

-- ---- values that nest nothing

IsPlain-whole : (n k : ℕ) → k < 2 ^ 64 → IsPlain n (whole_data k)
IsPlain-whole n k h = record { proper = h; whole = refl; shallow = omega arith }

IsPlain-text : (n : ℕ) (text : List ℕ) → HasScalars text → IsPlain n (text_data text)
IsPlain-text n text h = record { proper = (text, (h, refl)); whole = refl; shallow = omega arith }

IsPlain-truth : (n : ℕ) (b : Bool) → IsPlain n (boolean b)
IsPlain-truth n b = record { proper = tt; whole = refl; shallow = omega arith }

IsPlain-null : (n : ℕ) → IsPlain n null
IsPlain-null n = record { proper = tt; whole = refl; shallow = omega arith }

plain_count : (n : ℕ) (o : Option ℕ) → IsUnder (2 ^ 32) o → IfSome (option_map whole_data o) (IsPlain n)
plain_count n None h = tt
plain_count n (Some k) h = IsPlain-whole n k (omega (arith, h))

plain_group : (n : ℕ) (o : Option ℕ) → IsUnder (2 ^ 64) o → IfSome (option_map whole_data o) (IsPlain n)
plain_group n None h = tt
plain_group n (Some k) h = IsPlain-whole n k h

plain_truth : (n : ℕ) (o : Option Bool) → IfSome (option_map boolean o) (IsPlain n)
plain_truth n None = tt
plain_truth n (Some b) = IsPlain-truth n b

-- ---- lists

-- what a function makes of items
IsPlain-list : {A : Type 0} (n : ℕ) (f : A → Data) (P : A → Type 0) → ((x : A) → P x → IsPlain n (f x)) → (xs : List A) → AllByRecursion P xs → IsPlain (n + 1) (array (items_of (map f xs)))
IsPlain-list n f P h [] all = record { proper = tt; whole = refl; shallow = omega arith }
IsPlain-list n f P h (x ∷ xs) all =
    let first = h x all.0 in
    let rest = IsPlain-list n f P h xs all.1 in
    record { proper = (first.proper, rest.proper); whole = neither (has_float (f x)) _ first.whole rest.whole; shallow = omega (arith, first.shallow, rest.shallow) }

-- ---- deltas and spans

IsPlain-el : (el : El) → IsFairEl (2 ^ 64) el → IsPlain 2 (el_data el)
IsPlain-el (Copy a b) h = record { proper = (IsUtf8-are_ascii (codes "copy") refl, (h.0, (h.1, tt)), tt, tt); whole = refl; shallow = omega arith }
IsPlain-el (Insert text) h = record { proper = (IsUtf8-are_ascii (codes "insert") refl, (text, (h, refl)), tt, tt); whole = refl; shallow = omega arith }

IsPlain-delta : (delta : Delta) → IsFairDelta (2 ^ 64) delta → IsPlain 4 (delta_data delta)
IsPlain-delta delta h =
    IsPlain-object 3 _
    (ArePlain-member 3 (codes "base_len") _ _ (IsUtf8-are_ascii _ refl) (refl, tt) (IsPlain-whole 3 delta.base_len h.base_len)
    (ArePlain-member 3 (codes "els") _ _ (IsUtf8-are_ascii _ refl) tt (IsPlain-list 2 el_data (IsFairEl (2 ^ 64)) IsPlain-el delta.els h.els) (ArePlain-none 3)))

-- the members of a style from one on
abbrev pub from_weight : Style → Members
from_weight style = after_if (codes "weight") (option_map whole_data style.weight) no_members

abbrev pub from_underline : Style → Members
from_underline style = after_if (codes "underline") (option_map boolean style.underline) (from_weight style)

abbrev pub from_italic : Style → Members
from_italic style = after_if (codes "italic") (option_map boolean style.italic) (from_underline style)

abbrev pub from_fg_color : Style → Members
from_fg_color style = after_if (codes "fg_color") (option_map whole_data style.fg_color) (from_italic style)

-- a name that is below those of a style from one on
pub below_weight : (k : List ℕ) (style : Style) → slice_cmp nat_cmp k (codes "weight") ≡ Less → IsBelow k (from_weight style)
below_weight k style w = IsBelow-if k (codes "weight") (option_map whole_data style.weight) no_members w tt

pub below_underline : (k : List ℕ) (style : Style) → slice_cmp nat_cmp k (codes "underline") ≡ Less → slice_cmp nat_cmp k (codes "weight") ≡ Less → IsBelow k (from_underline style)
below_underline k style u w = IsBelow-if k (codes "underline") (option_map boolean style.underline) (from_weight style) u (below_weight k style w)

pub below_italic : (k : List ℕ) (style : Style) → slice_cmp nat_cmp k (codes "italic") ≡ Less → slice_cmp nat_cmp k (codes "underline") ≡ Less → slice_cmp nat_cmp k (codes "weight") ≡ Less
    → IsBelow k (from_italic style)
below_italic k style i u w = IsBelow-if k (codes "italic") (option_map boolean style.italic) (from_underline style) i (below_underline k style u w)

pub below_fg_color : (k : List ℕ) (style : Style) → slice_cmp nat_cmp k (codes "fg_color") ≡ Less → slice_cmp nat_cmp k (codes "italic") ≡ Less → slice_cmp nat_cmp k (codes "underline") ≡ Less
    → slice_cmp nat_cmp k (codes "weight") ≡ Less → IsBelow k (from_fg_color style)
below_fg_color k style f i u w = IsBelow-if k (codes "fg_color") (option_map whole_data style.fg_color) (from_italic style) f (below_italic k style i u w)

-- a member that is put before those whose names come after its own
put-below : (k : List ℕ) (d : Data) (ms : Members) → IsBelow k ms → put k d ms ≡ member k d ms
put-below k d no_members below = refl
put-below k d (member l e ms) below = rw below.0 refl

pub with_if-below : (k : List ℕ) (o : Option Data) (ms : Members) → IsBelow k ms → with_if k o ms ≡ after_if k o ms
with_if-below k None ms below = refl
with_if-below k (Some d) ms below = put-below k d ms below

-- the same, among members that were put so
with_if-next : (k : List ℕ) (o : Option Data) (ms made : Members) → made ≡ ms → IsBelow k ms → with_if k o made ≡ after_if k o ms
with_if-next k o ms made is below = ap (with_if k o) is ∙ with_if-below k o ms below

pub style_data-members : (style : Style) → object (style_members style) ≡ style_data style
style_data-members style =
    let weight = with_if-below (codes "weight") (option_map whole_data style.weight) no_members tt in
    let underline = with_if-next (codes "underline") (option_map boolean style.underline) (from_weight style) _ weight (below_weight (codes "underline") style refl) in
    let italic = with_if-next (codes "italic") (option_map boolean style.italic) (from_underline style) _ underline (below_underline (codes "italic") style refl refl) in
    let fg_color = with_if-next (codes "fg_color") (option_map whole_data style.fg_color) (from_italic style) _ italic (below_italic (codes "fg_color") style refl refl refl) in
    ap object (with_if-next (codes "bg_color") (option_map whole_data style.bg_color) (from_fg_color style) _ fg_color (below_fg_color (codes "bg_color") style refl refl refl refl))

pub edit_params-members : (view : List ℕ) (rev : ℕ) (delta : Delta) (priority : ℕ) (after_cursor : Bool) (author : List ℕ) (named : Option ℕ)
    → object (with_if (codes "undo_group") (option_map whole_data named) (edit_members view rev delta priority after_cursor author)) ≡ edit_params view rev delta priority after_cursor author named
edit_params-members view rev delta priority after_cursor author None = refl
edit_params-members view rev delta priority after_cursor author (Some group) = refl

IsPlain-style : (style : Style) → IsHeldStyle style → IsPlain 1 (style_data style)
IsPlain-style style h =
    IsPlain-object 0 _
    (ArePlain-if 0 (codes "bg_color") _ _ (IsUtf8-are_ascii _ refl) (below_fg_color (codes "bg_color") style refl refl refl refl) (plain_count 0 style.bg_color h.bg_color)
    (ArePlain-if 0 (codes "fg_color") _ _ (IsUtf8-are_ascii _ refl) (below_italic (codes "fg_color") style refl refl refl) (plain_count 0 style.fg_color h.fg_color)
    (ArePlain-if 0 (codes "italic") _ _ (IsUtf8-are_ascii _ refl) (below_underline (codes "italic") style refl refl) (plain_truth 0 style.italic)
    (ArePlain-if 0 (codes "underline") _ _ (IsUtf8-are_ascii _ refl) (below_weight (codes "underline") style refl) (plain_truth 0 style.underline)
    (ArePlain-if 0 (codes "weight") _ _ (IsUtf8-are_ascii _ refl) tt (plain_count 0 style.weight h.weight) (ArePlain-none 0))))))

IsPlain-span : (span : WireSpan) → IsHeldSpan span → IsPlain 2 (span_data span)
IsPlain-span span h =
    IsPlain-object 1 _
    (ArePlain-member 1 (codes "end") _ _ (IsUtf8-are_ascii _ refl) (refl, (refl, tt)) (IsPlain-whole 1 span.end h.end)
    (ArePlain-member 1 (codes "start") _ _ (IsUtf8-are_ascii _ refl) (refl, tt) (IsPlain-whole 1 span.start h.start)
    (ArePlain-member 1 (codes "style") _ _ (IsUtf8-are_ascii _ refl) tt (IsPlain-style span.style h.style) (ArePlain-none 1))))

-- ---- params

plain_view : (n : ℕ) (view : List ℕ) → HasScalars view → ArePlain n (member (codes "view_id") (text_data view) no_members)
plain_view n view h = ArePlain-member n (codes "view_id") _ _ (IsUtf8-are_ascii _ refl) tt (IsPlain-text n view h) (ArePlain-none n)

IsPlain-ask_params : (act : Act) → IsAsk act → IsHeldAct act → IsPlain 5 (ask_params act)
IsPlain-ask_params (Act.PluginEdit view rev delta priority after_cursor author named) ask h =
    let group : Members = after_if (codes "undo_group") (option_map whole_data named) (member (codes "view_id") (text_data view) no_members) in
    let below : (k : List ℕ) → slice_cmp nat_cmp k (codes "undo_group") ≡ Less → slice_cmp nat_cmp k (codes "view_id") ≡ Less → IsBelow k group =
    λ k one two. IsBelow-if k (codes "undo_group") (option_map whole_data named) (member (codes "view_id") (text_data view) no_members) one (two, tt) in
    IsPlain-object 4 _
    (ArePlain-member 4 (codes "after_cursor") _ _ (IsUtf8-are_ascii _ refl) (refl, (refl, (refl, (refl, below (codes "after_cursor") refl refl)))) (IsPlain-truth 4 after_cursor)
    (ArePlain-member 4 (codes "author") _ _ (IsUtf8-are_ascii _ refl) (refl, (refl, (refl, below (codes "author") refl refl))) (IsPlain-text 4 author h.4)
    (ArePlain-member 4 (codes "delta") _ _ (IsUtf8-are_ascii _ refl) (refl, (refl, below (codes "delta") refl refl)) (IsPlain-delta delta h.2)
    (ArePlain-member 4 (codes "priority") _ _ (IsUtf8-are_ascii _ refl) (refl, below (codes "priority") refl refl) (IsPlain-whole 4 priority (omega (arith, h.3)))
    (ArePlain-member 4 (codes "rev") _ _ (IsUtf8-are_ascii _ refl) (below (codes "rev") refl refl) (IsPlain-whole 4 rev h.1)
    (ArePlain-if 4 (codes "undo_group") _ _ (IsUtf8-are_ascii _ refl) (refl, tt) (plain_group 4 named h.5) (plain_view 4 view h.0)))))))
IsPlain-ask_params (Act.GetData view rev start max) ask h =
    IsPlain-object 4 _
    (ArePlain-member 4 (codes "max_size") _ _ (IsUtf8-are_ascii _ refl) (refl, (refl, (refl, tt))) (IsPlain-whole 4 max h.3)
    (ArePlain-member 4 (codes "rev") _ _ (IsUtf8-are_ascii _ refl) (refl, (refl, tt)) (IsPlain-whole 4 rev h.1)
    (ArePlain-member 4 (codes "start") _ _ (IsUtf8-are_ascii _ refl) (refl, tt) (IsPlain-whole 4 start h.2) (plain_view 4 view h.0))))
IsPlain-ask_params (Act.UpdateSpans view rev start len spans) ask h =
    IsPlain-object 4 _
    (ArePlain-member 4 (codes "len") _ _ (IsUtf8-are_ascii _ refl) (refl, (refl, (refl, (refl, tt)))) (IsPlain-whole 4 len h.3)
    (ArePlain-member 4 (codes "rev") _ _ (IsUtf8-are_ascii _ refl) (refl, (refl, (refl, tt))) (IsPlain-whole 4 rev h.1)
    (ArePlain-member 4 (codes "spans") _ _ (IsUtf8-are_ascii _ refl) (refl, (refl, tt)) (IsPlain-deeper 3 4 _ (omega arith) (IsPlain-list 2 span_data IsHeldSpan IsPlain-span spans h.4))
    (ArePlain-member 4 (codes "start") _ _ (IsUtf8-are_ascii _ refl) (refl, tt) (IsPlain-whole 4 start h.2) (plain_view 4 view h.0)))))
IsPlain-ask_params (Act.LineCount view) ask h = IsPlain-object 4 _ (plain_view 4 view h)
IsPlain-ask_params (Act.Alert msg) ask h =
    IsPlain-object 4 _ (ArePlain-member 4 (codes "msg") _ _ (IsUtf8-are_ascii _ refl) tt (IsPlain-text 4 msg h) (ArePlain-none 4))
IsPlain-ask_params (Act.Ack view rev) ask h =
    IsPlain-object 4 _
    (ArePlain-member 4 (codes "rev") _ _ (IsUtf8-are_ascii _ refl) (refl, tt) (IsPlain-whole 4 rev h.1) (plain_view 4 view h.0))
IsPlain-ask_params (Act.Bad fault) ask h = absurd ask
IsPlain-ask_params Act.Nothing ask h = absurd ask
IsPlain-ask_params (Act.Configure changes) ask h = absurd ask
IsPlain-ask_params (Act.NewView path) ask h = absurd ask
IsPlain-ask_params (Act.CloseView view) ask h = absurd ask
IsPlain-ask_params (Act.Save view path) ask h = absurd ask
IsPlain-ask_params (Act.Edit view act) ask h = absurd ask
IsPlain-ask_params Act.Ended ask h = absurd ask
IsPlain-ask_params Act.Closing ask h = absurd ask

-- ---- commands

pub ask_method-scalars : (act : Act) → IsAsk act → HasScalars (ask_method act)
ask_method-scalars (Act.PluginEdit view rev delta priority after_cursor author named) ask = refl
ask_method-scalars (Act.GetData view rev start max) ask = refl
ask_method-scalars (Act.UpdateSpans view rev start len spans) ask = refl
ask_method-scalars (Act.LineCount view) ask = refl
ask_method-scalars (Act.Alert msg) ask = refl
ask_method-scalars (Act.Ack view rev) ask = refl
ask_method-scalars (Act.Bad fault) ask = absurd ask
ask_method-scalars Act.Nothing ask = absurd ask
ask_method-scalars (Act.Configure changes) ask = absurd ask
ask_method-scalars (Act.NewView path) ask = absurd ask
ask_method-scalars (Act.CloseView view) ask = absurd ask
ask_method-scalars (Act.Save view path) ask = absurd ask
ask_method-scalars (Act.Edit view act) ask = absurd ask
ask_method-scalars Act.Ended ask = absurd ask
ask_method-scalars Act.Closing ask = absurd ask

-- a number where it has room, and else null
either_plain : (n : ℕ) (d : Data) (b : Bool) → (b ≡ true → IsPlain n d) → IsPlain n (cond b d null)
either_plain n d true h = h refl
either_plain n d false h = IsPlain-null n

IsPlain-id_number : (n : ℕ) (z : ℤ) → IsPlain n (id_number z)
IsPlain-id_number n (pos k) = either_plain n (number (unsigned k)) (nat_lt k (2 ^ 64)) (λ is. IsPlain-whole n k (ltb-true k (2 ^ 64) is))
IsPlain-id_number n (negsuc k) =
    either_plain n (number (negative (negsuc k))) (nat_lt k (2 ^ 63)) (λ is. record { proper = ltb-true k (2 ^ 63) is; whole = refl; shallow = omega arith })

plain_id : (n : ℕ) (id : Id) → IsTextId id → IfSome (id_member id) (IsPlain n)
plain_id n NoId h = tt
plain_id n (Num z) h = IsPlain-id_number n z
plain_id n (Word text) h = IsPlain-text n text h

pub IsPlain-command : (command : Command) → IsAsk command.act → IsHeldCommand command → IsPlain 6 (command_data command)
IsPlain-command command ask h =
    IsPlain-object 5 _
    (ArePlain-if 5 (codes "id") (id_member command.id) _ (IsUtf8-are_ascii _ refl) (refl, (refl, tt)) (plain_id 5 command.id h.id)
    (ArePlain-member 5 (codes "method") _ _ (IsUtf8-are_ascii _ refl) (refl, tt) (IsPlain-text 5 (ask_method command.act) (ask_method-scalars command.act ask))
    (ArePlain-member 5 (codes "params") _ _ (IsUtf8-are_ascii _ refl) tt (IsPlain-ask_params command.act ask h.act) (ArePlain-none 5))))

pub IsLineOf-command : (command : Command) → IsAsk command.act → IsHeldCommand command → IsLineOf (command_data command) (line_of (command_data command))
IsLineOf-command command ask h =
    let plain = IsPlain-command command ask h in
    IsLineOf-line_of (command_data command) plain.proper plain.whole (omega (arith, plain.shallow))
