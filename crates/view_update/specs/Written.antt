-- An update on the wire: the value of its note.
use Rattle.std.specs.Prelude.{ℕ, List, [], ◌∷◌, length, map, codes, Option, Some, None, option_map}
use Rattle.plain_screen.specs.declared.screen.Triple.{Triple}
use Rattle.plain_screen.specs.declared.screen.Line.{Line}
use Rattle.plain_screen.specs.declared.screen.Restyle.{Restyle}
use Rattle.plain_screen.specs.declared.screen.Op.{Op}
use Rattle.plain_screen.specs.declared.screen.Op.TheVariants.{Copy, Skip, Invalidate, Ins, Update as Restyling}
use Rattle.plain_screen.specs.declared.screen.Update.{Update}
use Rattle.serde_json.specs.Data.{Data, unsigned, boolean, number, string, array, object, Members, no_members, member}
use Rattle.serde_json.specs.Find.{of_integer}
use Rattle.serde_json.specs.View.{items_of}
use Rattle.json_rpc.specs.Response.{text_data, pair_data, note_data}

-- a whole number that is not below 0
abbrev pub count_data : ℕ → Data
count_data n = number (unsigned n)

-- the values in their order
abbrev pub list_data : List Data → Data
list_data items = array (items_of items)

-- start, length and id of each triple, in one flat list
abbrev pub triple_items : List Triple → List Data
triple_items [] = []
triple_items (t ∷ triples) = number (of_integer t.start) ∷ count_data t.len ∷ count_data t.id ∷ triple_items triples

-- the members, and before them one of this name, where there is a value for it
abbrev pub after_member : List ℕ → Option Data → Members → Members
after_member name None members = members
after_member name (Some value) members = member name value members

-- the members, and before them `ln`, where there is a number for it
abbrev pub after_ln : Option ℕ → Members → Members
after_ln ln members = after_member (codes "ln") (option_map count_data ln) members

-- a line: the offsets of its carets, its number where it has one, its styles and its text
abbrev pub line_data : Line → Data
line_data line =
    object (member (codes "cursor") (list_data (map count_data line.cursor))
    (after_ln line.ln
    (member (codes "styles") (list_data (triple_items line.styles))
    (member (codes "text") (text_data line.text) no_members))))

-- what becomes of an old line: the offsets of its carets, and its styles
abbrev pub restyle_data : Restyle → Data
restyle_data restyle =
    object (member (codes "cursor") (list_data (map count_data restyle.cursor))
    (member (codes "styles") (list_data (triple_items restyle.styles)) no_members))

-- the last two members of an operation: of how many lines it speaks, and its name, in ASCII
abbrev pub op_members : ℕ → List ℕ → Members
op_members n op = member (codes "n") (count_data n) (member (codes "op") (string op) no_members)

-- an operation
abbrev pub op_data : Op → Data
op_data (Copy n ln) = object (after_ln ln (op_members n (codes "copy")))
op_data (Skip n) = object (op_members n (codes "skip"))
op_data (Invalidate n) = object (op_members n (codes "invalidate"))
op_data (Ins lines) = object (member (codes "lines") (list_data (map line_data lines)) (op_members (length lines) (codes "ins")))
op_data (Restyling ln restyles) =
    object (member (codes "lines") (list_data (map restyle_data restyles)) (after_ln ln (op_members (length restyles) (codes "update"))))

-- the operations, and whether the text is the one loaded or last saved
abbrev pub ops_data : Update → Data
ops_data update = pair_data (codes "ops") (list_data (map op_data update.ops)) (codes "pristine") (boolean update.pristine)

-- the params of the note: the update, and the id of its view
abbrev pub update_params : List ℕ → Update → Data
update_params view update = pair_data (codes "update") (ops_data update) (codes "view_id") (text_data view)

-- THE NOTE of an update
abbrev pub update_data : List ℕ → Update → Data
update_data view update = note_data (codes "update") (update_params view update)
