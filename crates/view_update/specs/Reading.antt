-- The update that a line of the core says to a front end. Members stand in any order, and further ones are passed over; a note `update`
-- that can't be read is not.
use Rattle.std.specs.Prelude.{ℕ, ℤ, ◌==◌, ◌&&◌, Bool, true, false, if◌then◌else◌, List, [], ◌∷◌, length, codes, Option, Some, None, option_map, option_and_then, Result, Ok, Err}
use Rattle.std.specs.Str.{chars, bytes_eq}
use Rattle.xi_plain.specs.declared.command.Id.{Id}
use Rattle.xi_plain.specs.declared.command.Id.TheVariants.{NoId, Num, Word}
use Rattle.plain_screen.specs.declared.screen.Triple.{Triple}
use Rattle.plain_screen.specs.declared.screen.Line.{Line}
use Rattle.plain_screen.specs.declared.screen.Restyle.{Restyle}
use Rattle.plain_screen.specs.declared.screen.Op.{Op}
use Rattle.plain_screen.specs.declared.screen.Op.TheVariants.{Copy, Skip, Invalidate, Ins, Update as Restyling}
use Rattle.plain_screen.specs.declared.screen.Update.{Update}
pub use Rattle.view_update.specs.declared.note.ViewUpdate.{ViewUpdate}
pub use Rattle.view_update.specs.declared.note.Scroll.{Scroll}
pub use Rattle.view_update.specs.declared.note.NumberedStyle.{NumberedStyle}
use Rattle.serde_json.specs.Data.{Data, Items, no_items, item}
use Rattle.serde_json.specs.Find.{get, as_bool, as_number, as_str, as_array, as_u64, as_i64}
use Rattle.json_rpc.specs.Request.{Request, LineRefusal, line_request}

-- ---- values, members and lists of one kind

-- the whole number that a value is, if it is one from 0 to 2^64 - 1
abbrev pub as_count : Data → Option ℕ
as_count d = option_and_then as_u64 (as_number d)

-- the whole number that a value is, if it is one from -2^63 to 2^63 - 1
abbrev pub as_offset : Data → Option ℤ
as_offset d = option_and_then as_i64 (as_number d)

-- the characters of a text
abbrev pub as_chars : Data → Option (List ℕ)
as_chars d = option_map chars (as_str d)

-- what the member of this name is, if it is there and of the kind
abbrev pub member_as : {A : Type 0} → (Data → Option A) → List ℕ → Data → Option A
member_as kind name d = option_and_then kind (get name d)

-- a member that may be left out, but is else of the kind
abbrev pub if_present : {A : Type 0} → (Data → Option A) → Option Data → Option (Option A)
if_present kind None = Some None
if_present kind (Some d) = option_map Some (kind d)

-- what each value is, if all are of the kind
abbrev pub each_as : {A : Type 0} → (Data → Option A) → Items → Option (List A)
each_as kind no_items = Some []
each_as kind (item d items) = option_and_then (λ x. option_map (λ xs. x ∷ xs) (each_as kind items)) (kind d)

-- the items of a list whose values are all of the kind
abbrev pub list_as : {A : Type 0} → (Data → Option A) → Data → Option (List A)
list_as kind d = option_and_then (each_as kind) (as_array d)

-- ---- a line of text

-- the triple of three numbers
abbrev pub triple_from : Option ℤ → Option ℕ → Option ℕ → Option Triple
triple_from (Some start) (Some len) (Some id) = Some (record { start = start; len = len; id = id })
triple_from start len id = None

-- the triples of a flat list, three numbers each
abbrev pub triples_of : Items → Option (List Triple)
triples_of no_items = Some []
triples_of (item start no_items) = None
triples_of (item start (item len no_items)) = None
triples_of (item start (item len (item id items))) =
    option_and_then (λ t. option_map (λ triples. t ∷ triples) (triples_of items)) (triple_from (as_offset start) (as_count len) (as_count id))

-- the styles that a value is
abbrev pub as_styles : Data → Option (List Triple)
as_styles d = option_and_then triples_of (as_array d)

-- the line of these members
abbrev pub line_from : Option (List ℕ) → Option (Option ℕ) → Option (List Triple) → Option (List ℕ) → Option Line
line_from (Some cursor) (Some ln) (Some styles) (Some text) = Some (record { text = text; ln = ln; cursor = cursor; styles = styles })
line_from cursor ln styles text = None

-- the line that a value is
abbrev pub read_line_data : Data → Option Line
read_line_data d =
    line_from (member_as (list_as as_count) (codes "cursor") d) (if_present as_count (get (codes "ln") d))
    (member_as as_styles (codes "styles") d) (member_as as_chars (codes "text") d)

-- what becomes of an old line, of these members
abbrev pub restyle_from : Option (List ℕ) → Option (List Triple) → Option Restyle
restyle_from (Some cursor) (Some styles) = Some (record { cursor = cursor; styles = styles })
restyle_from cursor styles = None

-- what becomes of an old line, as a value says
abbrev pub read_restyle_data : Data → Option Restyle
read_restyle_data d = restyle_from (member_as (list_as as_count) (codes "cursor") d) (member_as as_styles (codes "styles") d)

-- ---- an operation

-- a copy of so many lines, which are numbered from `ln` on where it is there
abbrev pub copy_from : Option ℕ → Option (Option ℕ) → Option Op
copy_from (Some n) (Some ln) = Some (Copy n ln)
copy_from n ln = None

-- new lines, of which there have to be n
abbrev pub ins_from : Option ℕ → Option (List Line) → Option Op
ins_from (Some n) (Some lines) = if n == length lines then Some (Ins lines) else None
ins_from n lines = None

-- an update of old lines, of which there have to be n, and which are numbered from `ln` on where it is there
abbrev pub restyling_from : Option ℕ → Option (Option ℕ) → Option (List Restyle) → Option Op
restyling_from (Some n) (Some ln) (Some restyles) = if n == length restyles then Some (Restyling ln restyles) else None
restyling_from n ln restyles = None

-- the operation of this name, of n lines, with the other members of the value
abbrev pub op_named : List ℕ → Option ℕ → Data → Option Op
op_named name n d =
    if bytes_eq name (codes "copy") then copy_from n (if_present as_count (get (codes "ln") d))
    else (if bytes_eq name (codes "skip") then option_map Skip n
    else (if bytes_eq name (codes "invalidate") then option_map Invalidate n
    else (if bytes_eq name (codes "ins") then ins_from n (member_as (list_as read_line_data) (codes "lines") d)
    else (if bytes_eq name (codes "update")
    then restyling_from n (if_present as_count (get (codes "ln") d)) (member_as (list_as read_restyle_data) (codes "lines") d)
    else None))))

-- the operation that a value is
abbrev pub read_op : Data → Option Op
read_op d = option_and_then (λ name. op_named name (member_as as_count (codes "n") d) d) (member_as as_str (codes "op") d)

-- ---- an update

-- the update of these members
abbrev pub update_from : Option (List Op) → Option Bool → Option Update
update_from (Some ops) (Some pristine) = Some (record { ops = ops; pristine = pristine })
update_from ops pristine = None

-- the update that a value is
abbrev pub read_update : Data → Option Update
read_update d = update_from (member_as (list_as read_op) (codes "ops") d) (member_as as_bool (codes "pristine") d)

-- the update of a view, of these members
abbrev pub view_update_from : Option (List ℕ) → Option Update → Option ViewUpdate
view_update_from (Some view) (Some update) = Some (record { view = view; update = update })
view_update_from view update = None

-- the update of a view that the params of a note say
abbrev pub read_params : Data → Option ViewUpdate
read_params d = view_update_from (member_as as_chars (codes "view_id") d) (member_as read_update (codes "update") d)

-- ---- a note

-- whether a message has no id, and so is a note
abbrev pub is_note : Id → Bool
is_note NoId = true
is_note (Num z) = false
is_note (Word text) = false

-- the params of a message, if it was read and is a note of this method
abbrev pub note_params : List ℕ → Result Request LineRefusal → Option Data
note_params method (Err refusal) = None
note_params method (Ok message) = if is_note message.id && bytes_eq message.method method then Some message.params else None

-- THE UPDATE OF A LINE, where it is a note `update`: what its params say, which is `None` where they say no update of a view
unfoldable pub line_update : List ℕ → Option (Option ViewUpdate)
line_update line = option_map read_params (note_params (codes "update") (line_request line))

-- ---- the other notes

-- the place of these members
abbrev pub scroll_from : Option (List ℕ) → Option ℕ → Option ℕ → Option Scroll
scroll_from (Some view) (Some line) (Some col) = Some (record { view = view; line = line; col = col })
scroll_from view line col = None

-- the place that the params of a note say
abbrev pub read_scroll : Data → Option Scroll
read_scroll d = scroll_from (member_as as_chars (codes "view_id") d) (member_as as_count (codes "line") d) (member_as as_count (codes "col") d)

-- the place that a line asks to be shown, where it is such a note
unfoldable pub line_scroll : List ℕ → Option Scroll
line_scroll line = option_and_then read_scroll (note_params (codes "scroll_to") (line_request line))

-- the message that a line has for the user, where it is such a note
unfoldable pub line_alert : List ℕ → Option (List ℕ)
line_alert line = option_and_then (member_as as_chars (codes "msg")) (note_params (codes "alert") (line_request line))

-- the style of these members: its number, its two colours, its weight, and whether it is italic and underlined
abbrev pub style_from : Option ℕ → Option (Option ℕ) → Option (Option ℕ) → Option (Option ℕ) → Option (Option Bool) → Option (Option Bool) → Option NumberedStyle
style_from (Some id) (Some fg) (Some bg) (Some weight) (Some italic) (Some underline) =
    Some (record { id = id; style = record { fg_color = fg; bg_color = bg; weight = weight; italic = italic; underline = underline } })
style_from id fg bg weight italic underline = None

-- a member of a style: a number or a truth value, which may be left out
abbrev pub number_if_named : List ℕ → Data → Option (Option ℕ)
number_if_named name d = if_present as_count (get name d)

abbrev pub truth_if_named : List ℕ → Data → Option (Option Bool)
truth_if_named name d = if_present as_bool (get name d)

-- the style that the params of a note say
abbrev pub read_style : Data → Option NumberedStyle
read_style d =
    style_from (member_as as_count (codes "id") d) (number_if_named (codes "fg_color") d) (number_if_named (codes "bg_color") d)
    (number_if_named (codes "weight") d) (truth_if_named (codes "italic") d) (truth_if_named (codes "underline") d)

-- the style that a line defines, where it is such a note
unfoldable pub line_style : List ℕ → Option NumberedStyle
line_style line = option_and_then read_style (note_params (codes "def_style") (line_request line))
