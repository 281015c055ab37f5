-- The values of an update are proper, have no float and nest a few levels deep.
use Rattle.std.proofs.Common.{◌≡◌, ℕ, ◌+◌, ◌-◌, ◌≤◌, ◌^◌, ◌||◌, pos, negsuc, ◌≤ℤ◌, ℤ, List, [], ◌∷◌, map, length, Bool, true, false, Option, Some, None, option_map, IsUtf8, codes, refl, arith}
use Rattle.std.specs.List.{AllByRecursion}
use Rattle.std.specs.Str.{all_scalars}
use Rattle.std.proofs.lemmas.Int.{ints}
use Rattle.json.proofs.Printed.Utf8.{IsUtf8-are_ascii}
use Rattle.std.specs.Ordering.{nat_cmp}
use Rattle.std.specs.Cmp.Lexicographic.{slice_cmp}
use Rattle.std.specs.declared.cmp.Ordering.TheVariants.{Less}
use Rattle.plain_edits.specs.declared.style.Style.{Style}
use Rattle.plain_screen.specs.declared.screen.Triple.{Triple}
use Rattle.plain_screen.specs.declared.screen.Line.{Line}
use Rattle.plain_screen.specs.declared.screen.Restyle.{Restyle}
use Rattle.plain_screen.specs.declared.screen.Op.{Op}
use Rattle.plain_screen.specs.declared.screen.Op.TheVariants.{Copy, Skip, Invalidate, Ins, Update as Restyling}
use Rattle.plain_screen.specs.declared.screen.Update.{Update}
use Rattle.serde_json.specs.Data.{Data, boolean, number, object, Members, no_members, member, depth, members_depth}
use Rattle.serde_json.specs.Find.{of_integer}
use Rattle.serde_json.specs.Written.{has_float, members_have_float}
use Rattle.json_rpc.specs.Proper.{IsProper, HasProper, IsBelow}
use Rattle.json_rpc.specs.Response.{text_data, note_data}
use Rattle.view_update.specs.Written.{count_data, list_data, triple_items, after_member, after_ln, line_data, restyle_data, op_members, op_data, ops_data, update_params}
use Rattle.view_update.specs.Fair.{IsCount, IsLn, IsFairTriple, IsFairLine, IsFairRestyle, IsFairOp, IsFairStyle, IsFairUpdate}
use Rattle.view_update.specs.Notes.{scroll_params, alert_params, style_params}

-- a proper value with no float, nested at most n deep
pub record IsPlain (n : ℕ) (d : Data) : Type 0 where
  pub proper : IsProper d
  pub whole : has_float d ≡ false
  pub shallow : depth d ≤ n

-- such members
pub record ArePlain (n : ℕ) (ms : Members) : Type 0 where
  pub proper : HasProper ms
  pub whole : members_have_float ms ≡ false
  pub shallow : members_depth ms ≤ n

neither : (a b : Bool) → a ≡ false → b ≡ false → (a || b) ≡ false
neither false b h k = k
neither true b h k = h

pub ArePlain-none : (n : ℕ) → ArePlain n no_members
ArePlain-none n = record { proper = tt; whole = refl; shallow = omega arith }

pub ArePlain-member : (n : ℕ) (k : List ℕ) (d : Data) (ms : Members) → IsUtf8 k → IsBelow k ms → IsPlain n d → ArePlain n ms → ArePlain n (member k d ms)
ArePlain-member n k d ms utf8 below h all = record {
  proper = (utf8, h.proper, below, all.proper);
  whole = neither (has_float d) _ h.whole all.whole;
  shallow = omega (arith, h.shallow, all.shallow);
}

pub IsPlain-object : (n : ℕ) (ms : Members) → ArePlain n ms → IsPlain (n + 1) (object ms)
IsPlain-object n ms h = record { proper = h.proper; whole = h.whole; shallow = omega (arith, h.shallow) }

-- ---- values that nest nothing

pub IsPlain-count : (n k : ℕ) → IsCount k → IsPlain n (count_data k)
IsPlain-count n k h = record { proper = h; whole = refl; shallow = omega arith }

pub IsPlain-text : (n : ℕ) (text : List ℕ) → all_scalars text ≡ true → IsPlain n (text_data text)
IsPlain-text n text h = record { proper = (text, (h, refl)); whole = refl; shallow = omega arith }

IsPlain-start : (n : ℕ) (z : ℤ) → negsuc (2 ^ 63 - 1) ≤ℤ z → z ≤ℤ pos (2 ^ 63 - 1) → IsPlain n (number (of_integer z))
IsPlain-start n (pos k) low high = record { proper = omega (arith, ints); whole = refl; shallow = omega arith }
IsPlain-start n (negsuc k) low high = record { proper = omega (arith, ints); whole = refl; shallow = omega arith }

-- ---- lists

-- each value of the list is such a value
abbrev EachPlain : ℕ → List Data → Type 0
EachPlain n ds = AllByRecursion (IsPlain n) ds

pub IsPlain-list : (n : ℕ) (ds : List Data) → EachPlain n ds → IsPlain (n + 1) (list_data ds)
IsPlain-list n [] all = record { proper = tt; whole = refl; shallow = omega arith }
IsPlain-list n (d ∷ ds) all =
    let rest : IsPlain (n + 1) (list_data ds) = IsPlain-list n ds all.1 in
    record { proper = (all.0.proper, rest.proper); whole = neither (has_float d) _ all.0.whole rest.whole; shallow = omega (arith, all.0.shallow, rest.shallow) }

-- what a function makes of items
pub EachPlain-map : {A : Type 0} (n : ℕ) (f : A → Data) (P : A → Type 0) → ((x : A) → P x → IsPlain n (f x)) → (xs : List A) → AllByRecursion P xs → EachPlain n (map f xs)
EachPlain-map n f P h [] all = tt
EachPlain-map n f P h (x ∷ xs) all = (h x all.0, EachPlain-map n f P h xs all.1)

EachPlain-triples : (n : ℕ) (triples : List Triple) → AllByRecursion IsFairTriple triples → EachPlain n (triple_items triples)
EachPlain-triples n [] all = tt
EachPlain-triples n (t ∷ triples) all =
    (IsPlain-start n t.start all.0.low all.0.high, (IsPlain-count n t.len all.0.len, (IsPlain-count n t.id all.0.id, EachPlain-triples n triples all.1)))

-- ---- an update

IsPlain-numbers : (numbers : List ℕ) → AllByRecursion IsCount numbers → IsPlain 1 (list_data (map count_data numbers))
IsPlain-numbers numbers all = IsPlain-list 0 _ (EachPlain-map 0 count_data IsCount (IsPlain-count 0) numbers all)

ArePlain-styles : (line : Line) → IsFairLine line → ArePlain 1 (member (codes "styles") (list_data (triple_items line.styles)) (member (codes "text") (text_data line.text) no_members))
ArePlain-styles line h =
    ArePlain-member 1 (codes "styles") _ _ (IsUtf8-are_ascii _ refl) (refl, tt) (IsPlain-list 0 _ (EachPlain-triples 0 line.styles h.styles))
    (ArePlain-member 1 (codes "text") _ _ (IsUtf8-are_ascii _ refl) tt (IsPlain-text 1 line.text h.text) (ArePlain-none 1))

ArePlain-after_ln : (n : ℕ) (ln : Option ℕ) (ms : Members) → IsLn ln → IsBelow (codes "ln") ms → ArePlain n ms → ArePlain n (after_ln ln ms)
ArePlain-after_ln n None ms h below all = all
ArePlain-after_ln n (Some k) ms h below all = ArePlain-member n (codes "ln") _ ms (IsUtf8-are_ascii _ refl) below (IsPlain-count n k h) all

IsBelow-after_ln : (name : List ℕ) (ln : Option ℕ) (ms : Members) → IsBelow name (after_ln (Some 0) ms) → IsBelow name (after_ln ln ms)
IsBelow-after_ln name None ms below = below.1
IsBelow-after_ln name (Some k) ms below = below

IsPlain-line : (line : Line) → IsFairLine line → IsPlain 2 (line_data line)
IsPlain-line line h =
    let styles : Members = member (codes "styles") (list_data (triple_items line.styles)) (member (codes "text") (text_data line.text) no_members) in
    IsPlain-object 1 _
    (ArePlain-member 1 (codes "cursor") _ _ (IsUtf8-are_ascii _ refl) (IsBelow-after_ln (codes "cursor") line.ln styles (refl, (refl, (refl, tt)))) (IsPlain-numbers line.cursor h.cursor)
    (ArePlain-after_ln 1 line.ln styles h.ln (refl, (refl, tt)) (ArePlain-styles line h)))

IsPlain-restyle : (restyle : Restyle) → IsFairRestyle restyle → IsPlain 2 (restyle_data restyle)
IsPlain-restyle restyle h =
    IsPlain-object 1 _
    (ArePlain-member 1 (codes "cursor") _ _ (IsUtf8-are_ascii _ refl) (refl, tt) (IsPlain-numbers restyle.cursor h.cursor)
    (ArePlain-member 1 (codes "styles") _ _ (IsUtf8-are_ascii _ refl) tt (IsPlain-list 0 _ (EachPlain-triples 0 restyle.styles h.styles)) (ArePlain-none 1)))

ArePlain-op_members : (n k : ℕ) (op : List ℕ) → IsCount k → IsUtf8 op → ArePlain n (op_members k op)
ArePlain-op_members n k op h name =
    ArePlain-member n (codes "n") _ _ (IsUtf8-are_ascii _ refl) (refl, tt) (IsPlain-count n k h)
    (ArePlain-member n (codes "op") _ _ (IsUtf8-are_ascii _ refl) tt (record { proper = name; whole = refl; shallow = omega arith }) (ArePlain-none n))

IsPlain-op : (op : Op) → IsFairOp op → IsPlain 4 (op_data op)
IsPlain-op (Copy n ln) h = IsPlain-object 3 _ (ArePlain-after_ln 3 ln _ h.1 (refl, (refl, tt)) (ArePlain-op_members 3 n (codes "copy") h.0 (IsUtf8-are_ascii _ refl)))
IsPlain-op (Skip n) h = IsPlain-object 3 _ (ArePlain-op_members 3 n (codes "skip") h (IsUtf8-are_ascii _ refl))
IsPlain-op (Invalidate n) h = IsPlain-object 3 _ (ArePlain-op_members 3 n (codes "invalidate") h (IsUtf8-are_ascii _ refl))
IsPlain-op (Ins lines) h =
    IsPlain-object 3 _
    (ArePlain-member 3 (codes "lines") _ _ (IsUtf8-are_ascii _ refl) (refl, (refl, tt)) (IsPlain-list 2 _ (EachPlain-map 2 line_data IsFairLine IsPlain-line lines h.1))
    (ArePlain-op_members 3 (length lines) (codes "ins") h.0 (IsUtf8-are_ascii _ refl)))
IsPlain-op (Restyling ln restyles) h =
    let members : Members = op_members (length restyles) (codes "update") in
    IsPlain-object 3 _
    (ArePlain-member 3 (codes "lines") _ _ (IsUtf8-are_ascii _ refl) (IsBelow-after_ln (codes "lines") ln members (refl, (refl, (refl, tt))))
    (IsPlain-list 2 _ (EachPlain-map 2 restyle_data IsFairRestyle IsPlain-restyle restyles h.2))
    (ArePlain-after_ln 3 ln members h.1 (refl, (refl, tt)) (ArePlain-op_members 3 (length restyles) (codes "update") h.0 (IsUtf8-are_ascii _ refl))))

IsPlain-ops : (update : Update) → AllByRecursion IsFairOp update.ops → IsPlain 6 (ops_data update)
IsPlain-ops update all =
    IsPlain-object 5 _
    (ArePlain-member 5 (codes "ops") _ _ (IsUtf8-are_ascii _ refl) (refl, tt) (IsPlain-list 4 _ (EachPlain-map 4 op_data IsFairOp IsPlain-op update.ops all))
    (ArePlain-member 5 (codes "pristine") _ _ (IsUtf8-are_ascii _ refl) tt (record { proper = tt; whole = refl; shallow = omega arith }) (ArePlain-none 5)))

pub IsPlain-update_params : (view : List ℕ) (update : Update) → IsFairUpdate view update → IsPlain 7 (update_params view update)
IsPlain-update_params view update h =
    IsPlain-object 6 _
    (ArePlain-member 6 (codes "update") _ _ (IsUtf8-are_ascii _ refl) (refl, tt) (IsPlain-ops update h.ops)
    (ArePlain-member 6 (codes "view_id") _ _ (IsUtf8-are_ascii _ refl) tt (IsPlain-text 6 view h.id) (ArePlain-none 6)))

-- ---- the notes

pub IsPlain-scroll_params : (view : List ℕ) (line col : ℕ) → all_scalars view ≡ true → IsCount line → IsCount col → IsPlain 1 (scroll_params view line col)
IsPlain-scroll_params view line col name h k =
    IsPlain-object 0 _
    (ArePlain-member 0 (codes "col") _ _ (IsUtf8-are_ascii _ refl) (refl, (refl, tt)) (IsPlain-count 0 col k)
    (ArePlain-member 0 (codes "line") _ _ (IsUtf8-are_ascii _ refl) (refl, tt) (IsPlain-count 0 line h)
    (ArePlain-member 0 (codes "view_id") _ _ (IsUtf8-are_ascii _ refl) tt (IsPlain-text 0 view name) (ArePlain-none 0))))

pub IsPlain-alert_params : (message : List ℕ) → all_scalars message ≡ true → IsPlain 1 (alert_params message)
IsPlain-alert_params message h =
    IsPlain-object 0 _ (ArePlain-member 0 (codes "msg") _ _ (IsUtf8-are_ascii _ refl) tt (IsPlain-text 0 message h) (ArePlain-none 0))

-- a name that is below one more, and below those after it
pub IsBelow-after_member : (key name : List ℕ) (value : Option Data) (ms : Members) → slice_cmp nat_cmp key name ≡ Less → IsBelow key ms → IsBelow key (after_member name value ms)
IsBelow-after_member key name None ms less below = below
IsBelow-after_member key name (Some d) ms less below = (less, below)

ArePlain-count : (n : ℕ) (name : List ℕ) (k : Option ℕ) (ms : Members) → IsUtf8 name → IsLn k → IsBelow name ms → ArePlain n ms
    → ArePlain n (after_member name (option_map count_data k) ms)
ArePlain-count n name None ms utf8 h below all = all
ArePlain-count n name (Some k) ms utf8 h below all = ArePlain-member n name _ ms utf8 below (IsPlain-count n k h) all

ArePlain-truth : (n : ℕ) (name : List ℕ) (b : Option Bool) (ms : Members) → IsUtf8 name → IsBelow name ms → ArePlain n ms
    → ArePlain n (after_member name (option_map boolean b) ms)
ArePlain-truth n name None ms utf8 below all = all
ArePlain-truth n name (Some b) ms utf8 below all = ArePlain-member n name _ ms utf8 below (record { proper = tt; whole = refl; shallow = omega arith }) all

-- the members of a style from each of its names on
abbrev pub from_weight : Style → Members
from_weight style = after_member (codes "weight") (option_map count_data style.weight) no_members

abbrev pub from_underline : Style → Members
from_underline style = after_member (codes "underline") (option_map boolean style.underline) (from_weight style)

abbrev pub from_italic : Style → Members
from_italic style = after_member (codes "italic") (option_map boolean style.italic) (from_underline style)

abbrev pub from_id : ℕ → Style → Members
from_id id style = member (codes "id") (count_data id) (from_italic style)

abbrev pub from_fg : ℕ → Style → Members
from_fg id style = after_member (codes "fg_color") (option_map count_data style.fg_color) (from_id id style)

-- a name that is below each of them is below all that follow it
below_weight : (name : List ℕ) (style : Style) → slice_cmp nat_cmp name (codes "weight") ≡ Less → IsBelow name (from_weight style)
below_weight name style less = IsBelow-after_member name (codes "weight") (option_map count_data style.weight) no_members less tt

pub below_underline : (style : Style) → IsBelow (codes "underline") (from_weight style)
below_underline style = below_weight (codes "underline") style refl

past_italic : (name : List ℕ) (style : Style) → slice_cmp nat_cmp name (codes "underline") ≡ Less → slice_cmp nat_cmp name (codes "weight") ≡ Less
    → IsBelow name (from_underline style)
past_italic name style less least =
    IsBelow-after_member name (codes "underline") (option_map boolean style.underline) (from_weight style) less (below_weight name style least)

pub below_italic : (style : Style) → IsBelow (codes "italic") (from_underline style)
below_italic style = past_italic (codes "italic") style refl refl

past_id : (name : List ℕ) (style : Style) → slice_cmp nat_cmp name (codes "italic") ≡ Less → slice_cmp nat_cmp name (codes "underline") ≡ Less
    → slice_cmp nat_cmp name (codes "weight") ≡ Less → IsBelow name (from_italic style)
past_id name style first second third =
    IsBelow-after_member name (codes "italic") (option_map boolean style.italic) (from_underline style) first (past_italic name style second third)

pub below_id : (style : Style) → IsBelow (codes "id") (from_italic style)
below_id style = past_id (codes "id") style refl refl refl

pub below_fg : (id : ℕ) (style : Style) → IsBelow (codes "fg_color") (from_id id style)
below_fg id style = (refl, past_id (codes "fg_color") style refl refl refl)

pub below_bg : (id : ℕ) (style : Style) → IsBelow (codes "bg_color") (from_fg id style)
below_bg id style =
    IsBelow-after_member (codes "bg_color") (codes "fg_color") (option_map count_data style.fg_color) (from_id id style) refl
    (refl, past_id (codes "bg_color") style refl refl refl)

pub IsPlain-style_params : (id : ℕ) (style : Style) → IsCount id → IsFairStyle style → IsPlain 1 (style_params id style)
IsPlain-style_params id style h k =
    IsPlain-object 0 _
    (ArePlain-count 0 (codes "bg_color") style.bg_color (from_fg id style) (IsUtf8-are_ascii _ refl) k.bg_color (below_bg id style)
    (ArePlain-count 0 (codes "fg_color") style.fg_color (from_id id style) (IsUtf8-are_ascii _ refl) k.fg_color (below_fg id style)
    (ArePlain-member 0 (codes "id") _ (from_italic style) (IsUtf8-are_ascii _ refl) (below_id style) (IsPlain-count 0 id h)
    (ArePlain-truth 0 (codes "italic") style.italic (from_underline style) (IsUtf8-are_ascii _ refl) (below_italic style)
    (ArePlain-truth 0 (codes "underline") style.underline (from_weight style) (IsUtf8-are_ascii _ refl) (below_underline style)
    (ArePlain-count 0 (codes "weight") style.weight no_members (IsUtf8-are_ascii _ refl) k.weight tt (ArePlain-none 0)))))))

pub IsPlain-note_data : (n : ℕ) (method : List ℕ) (params : Data) → all_scalars method ≡ true → IsPlain n params → IsPlain (n + 1) (note_data method params)
IsPlain-note_data n method params name h =
    IsPlain-object n _
    (ArePlain-member n (codes "method") _ _ (IsUtf8-are_ascii _ refl) (refl, tt) (IsPlain-text n method name)
    (ArePlain-member n (codes "params") _ _ (IsUtf8-are_ascii _ refl) tt h (ArePlain-none n)))
