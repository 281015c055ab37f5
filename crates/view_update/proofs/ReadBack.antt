-- What the values of an update are to their reader.
use Rattle.std.proofs.Common.{◌≡◌, ℕ, ◌-◌, ◌<◌, ◌^◌, pos, negsuc, ◌≤ℤ◌, ℤ, List, [], ◌∷◌, map, length, Bool, true, cond, Option, Some, None, option_map, option_and_then, codes, refl, ap, ◌∙◌, arith}
use Rattle.std.specs.List.{AllByRecursion}
use Rattle.std.specs.Str.{all_scalars}
use Rattle.std.proofs.lemmas.Bool.{lt-ltb, eq-eqb}
use Rattle.std.proofs.lemmas.Str.{chars-encodes}
use Rattle.std.proofs.lemmas.Int.{ints}
use Rattle.plain_edits.specs.declared.style.Style.{Style}
use Rattle.plain_screen.specs.declared.screen.Triple.{Triple}
use Rattle.plain_screen.specs.declared.screen.Line.{Line}
use Rattle.plain_screen.specs.declared.screen.Restyle.{Restyle}
use Rattle.plain_screen.specs.declared.screen.Op.{Op}
use Rattle.plain_screen.specs.declared.screen.Op.TheVariants.{Copy, Skip, Invalidate, Ins, Update as Restyling}
use Rattle.plain_screen.specs.declared.screen.Update.{Update}
use Rattle.serde_json.specs.Data.{Data, boolean, number, Members, no_members, member}
use Rattle.serde_json.specs.Find.{get_member, as_bool, of_integer}
use Rattle.serde_json.specs.View.{items_of}
use Rattle.json_rpc.specs.Proper.{IsBelow}
use Rattle.json_rpc.specs.Response.{text_data}
use Rattle.view_update.specs.Written.{count_data, after_member, triple_items, line_data, restyle_data, op_data, ops_data, update_params}
use Rattle.view_update.specs.Reading.{as_count, as_offset, as_chars, if_present, each_as, triple_from, triples_of, line_from, read_line_data, restyle_from, read_restyle_data, ins_from, restyling_from, read_op, update_from, read_update, view_update_from, read_params, scroll_from, read_scroll, style_from, read_style}
use Rattle.view_update.specs.Notes.{scroll_params, style_params}
use Rattle.view_update.proofs.Plain.{from_weight, from_underline, from_id, from_fg, below_underline, below_italic, below_fg, below_bg}
use Rattle.view_update.specs.Fair.{IsCount, IsFairTriple, IsFairLine, IsFairRestyle, IsFairOp, IsFairUpdate}

pub as_chars-text_data : (text : List ℕ) → all_scalars text ≡ true → as_chars (text_data text) ≡ Some text
as_chars-text_data text h = ap Some (chars-encodes text h)

as_offset-of_integer : (z : ℤ) → z ≤ℤ pos (2 ^ 63 - 1) → as_offset (number (of_integer z)) ≡ Some z
as_offset-of_integer (pos n) high =
    let below : n < 2 ^ 63 = omega (arith, ints) in
    ap (λ b. cond b (Some (pos n)) None) (lt-ltb n (2 ^ 63) below)
as_offset-of_integer (negsuc n) high = refl

pub each_as-map : {A : Type 0} (kind : Data → Option A) (f : A → Data) (P : A → Type 0) → ((x : A) → P x → kind (f x) ≡ Some x) → (xs : List A) → AllByRecursion P xs
    → each_as kind (items_of (map f xs)) ≡ Some xs
each_as-map kind f P h [] all = refl
each_as-map kind f P h (x ∷ xs) all =
    ap (option_and_then (λ y. option_map (λ ys. y ∷ ys) (each_as kind (items_of (map f xs))))) (h x all.0)
    ∙ ap (option_map (λ ys. x ∷ ys)) (each_as-map kind f P h xs all.1)

each_as-counts : (numbers : List ℕ) → AllByRecursion IsCount numbers → each_as as_count (items_of (map count_data numbers)) ≡ Some numbers
each_as-counts numbers all = each_as-map as_count count_data IsCount (λ n h. refl) numbers all

triples_of-triple_items : (triples : List Triple) → AllByRecursion IsFairTriple triples → triples_of (items_of (triple_items triples)) ≡ Some triples
triples_of-triple_items [] all = refl
triples_of-triple_items (t ∷ triples) all =
    ap (λ start. option_and_then (λ u. option_map (λ us. u ∷ us) (triples_of (items_of (triple_items triples)))) (triple_from start (Some t.len) (Some t.id)))
    (as_offset-of_integer t.start all.0.high)
    ∙ ap (option_map (λ us. t ∷ us)) (triples_of-triple_items triples all.1)

read_line_data-parts : (cursor : List ℕ) (ln : Option ℕ) (styles : List Triple) (text : List ℕ) → AllByRecursion IsCount cursor → AllByRecursion IsFairTriple styles → all_scalars text ≡ true
    → read_line_data (line_data (record { text = text; ln = ln; cursor = cursor; styles = styles })) ≡ Some (record { text = text; ln = ln; cursor = cursor; styles = styles })
read_line_data-parts cursor None styles text h k m =
    let cs = each_as-counts cursor h in let ss = triples_of-triple_items styles k in let ts = as_chars-text_data text m in
    λ i. line_from (cs i) (Some None) (ss i) (ts i)
read_line_data-parts cursor (Some n) styles text h k m =
    let cs = each_as-counts cursor h in let ss = triples_of-triple_items styles k in let ts = as_chars-text_data text m in
    λ i. line_from (cs i) (Some (Some n)) (ss i) (ts i)

pub read_line_data-line_data : (line : Line) → IsFairLine line → read_line_data (line_data line) ≡ Some line
read_line_data-line_data line h = read_line_data-parts line.cursor line.ln line.styles line.text h.cursor h.styles h.text

pub read_restyle_data-restyle_data : (restyle : Restyle) → IsFairRestyle restyle → read_restyle_data (restyle_data restyle) ≡ Some restyle
read_restyle_data-restyle_data restyle h =
    let cs = each_as-counts restyle.cursor h.cursor in let ss = triples_of-triple_items restyle.styles h.styles in
    λ i. restyle_from (cs i) (ss i)

restyling_from-restyles : (ln : Option ℕ) (restyles : List Restyle) →
    restyling_from (Some (length restyles)) (Some ln) (Some restyles) ≡ Some (Restyling ln restyles)
restyling_from-restyles ln restyles = ap (λ b. cond b (Some (Restyling ln restyles)) None) (eq-eqb (length restyles) (length restyles) refl)

ins_from-lines : (lines : List Line) → ins_from (Some (length lines)) (Some lines) ≡ Some (Ins lines)
ins_from-lines lines = ap (λ b. cond b (Some (Ins lines)) None) (eq-eqb (length lines) (length lines) refl)

pub read_op-op_data : (op : Op) → IsFairOp op → read_op (op_data op) ≡ Some op
read_op-op_data (Copy n None) h = refl
read_op-op_data (Copy n (Some ln)) h = refl
read_op-op_data (Skip n) h = refl
read_op-op_data (Invalidate n) h = refl
read_op-op_data (Ins lines) h =
    ap (ins_from (Some (length lines))) (each_as-map read_line_data line_data IsFairLine read_line_data-line_data lines h.1)
    ∙ ins_from-lines lines
read_op-op_data (Restyling None restyles) h =
    ap (restyling_from (Some (length restyles)) (Some None))
    (each_as-map read_restyle_data restyle_data IsFairRestyle read_restyle_data-restyle_data restyles h.2)
    ∙ restyling_from-restyles None restyles
read_op-op_data (Restyling (Some ln) restyles) h =
    ap (restyling_from (Some (length restyles)) (Some (Some ln)))
    (each_as-map read_restyle_data restyle_data IsFairRestyle read_restyle_data-restyle_data restyles h.2)
    ∙ restyling_from-restyles (Some ln) restyles

pub read_update-ops_data : (update : Update) → AllByRecursion IsFairOp update.ops → read_update (ops_data update) ≡ Some update
read_update-ops_data update all = ap (λ ops. update_from ops (Some update.pristine)) (each_as-map read_op op_data IsFairOp read_op-op_data update.ops all)

pub read_params-update_params : (view : List ℕ) (update : Update) → IsFairUpdate view update → read_params (update_params view update) ≡ Some (record { view = view; update = update })
read_params-update_params view update h =
    let vs = as_chars-text_data view h.id in let us = read_update-ops_data update h.ops in
    λ i. view_update_from (vs i) (us i)

pub read_scroll-scroll_params : (view : List ℕ) (line col : ℕ) → all_scalars view ≡ true → read_scroll (scroll_params view line col) ≡ Some (record { view = view; line = line; col = col })
read_scroll-scroll_params view line col h = ap (λ v. scroll_from v (Some line) (Some col)) (as_chars-text_data view h)

-- ---- a style

-- a name that is below all others is not among them
get_member-below : (key : List ℕ) (ms : Members) → IsBelow key ms → get_member key ms ≡ None
get_member-below key no_members below = refl
get_member-below key (member k d ms) below = rw below.0 (get_member-below key ms below.1)

-- what stands first is found, and what has another name is passed over
get_first : (name : List ℕ) (value : Option Data) (ms : Members) → ((d : Data) → get_member name (member name d ms) ≡ Some d) → IsBelow name ms
    → get_member name (after_member name value ms) ≡ value
get_first name None ms same below = get_member-below name ms below
get_first name (Some d) ms same below = same d

get_past : (key name : List ℕ) (value : Option Data) (ms : Members) → ((d : Data) → get_member key (member name d ms) ≡ get_member key ms)
    → get_member key (after_member name value ms) ≡ get_member key ms
get_past key name None ms other = refl
get_past key name (Some d) ms other = other d

if_present-count : (n : Option ℕ) → if_present as_count (option_map count_data n) ≡ Some n
if_present-count None = refl
if_present-count (Some n) = refl

if_present-truth : (b : Option Bool) → if_present as_bool (option_map boolean b) ≡ Some b
if_present-truth None = refl
if_present-truth (Some b) = refl

-- what stands after the two colours is found past them
past_colours : (key : List ℕ) (id : ℕ) (style : Style)
    → ((d : Data) → get_member key (member (codes "bg_color") d (from_fg id style)) ≡ get_member key (from_fg id style))
    → ((d : Data) → get_member key (member (codes "fg_color") d (from_id id style)) ≡ get_member key (from_id id style))
    → get_member key (after_member (codes "bg_color") (option_map count_data style.bg_color) (from_fg id style)) ≡ get_member key (from_id id style)
past_colours key id style first second =
    get_past key (codes "bg_color") (option_map count_data style.bg_color) (from_fg id style) first
    ∙ get_past key (codes "fg_color") (option_map count_data style.fg_color) (from_id id style) second

pub read_style-style_params : (id : ℕ) (style : Style) → read_style (style_params id style) ≡ Some (record { id = id; style = style })
read_style-style_params id style =
    let bg =
    ap (if_present as_count) (get_first (codes "bg_color") (option_map count_data style.bg_color) (from_fg id style) (λ d. refl) (below_bg id style))
    ∙ if_present-count style.bg_color in
    let fg =
    ap (if_present as_count)
    (get_past (codes "fg_color") (codes "bg_color") (option_map count_data style.bg_color) (from_fg id style) (λ d. refl)
    ∙ get_first (codes "fg_color") (option_map count_data style.fg_color) (from_id id style) (λ d. refl) (below_fg id style))
    ∙ if_present-count style.fg_color in
    let number = ap (option_and_then as_count) (past_colours (codes "id") id style (λ d. refl) (λ d. refl)) in
    let italic =
    ap (if_present as_bool)
    (past_colours (codes "italic") id style (λ d. refl) (λ d. refl)
    ∙ get_first (codes "italic") (option_map boolean style.italic) (from_underline style) (λ d. refl) (below_italic style))
    ∙ if_present-truth style.italic in
    let underline =
    ap (if_present as_bool)
    (past_colours (codes "underline") id style (λ d. refl) (λ d. refl)
    ∙ get_past (codes "underline") (codes "italic") (option_map boolean style.italic) (from_underline style) (λ d. refl)
    ∙ get_first (codes "underline") (option_map boolean style.underline) (from_weight style) (λ d. refl) (below_underline style))
    ∙ if_present-truth style.underline in
    let weight =
    ap (if_present as_count)
    (past_colours (codes "weight") id style (λ d. refl) (λ d. refl)
    ∙ get_past (codes "weight") (codes "italic") (option_map boolean style.italic) (from_underline style) (λ d. refl)
    ∙ get_past (codes "weight") (codes "underline") (option_map boolean style.underline) (from_weight style) (λ d. refl)
    ∙ get_first (codes "weight") (option_map count_data style.weight) no_members (λ d. refl) tt)
    ∙ if_present-count style.weight in
    λ i. style_from (number i) (fg i) (bg i) (weight i) (italic i) (underline i)
