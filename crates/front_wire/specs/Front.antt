-- What a line of the front end asks, by its bytes alone.
use Rattle.std.specs.Prelude.{ℕ, ◌+◌, ◌&&◌, ◌==◌, nat_le, Bool, true, false, if◌then◌else◌, List, [], ◌∷◌, map, slice_get, codes, Option, Some, None, option_map, option_and_then, unwrap_or, Result, Ok, Err}
use Rattle.std.specs.Str.{chars, encode_utf8_all, bytes_eq}
use Rattle.std.specs.List.{starts_with}
use Rattle.serde_json.specs.Data.{Data, null}
use Rattle.serde_json.specs.Find.{get, as_str, as_bool}
use Rattle.xi_plain.specs.declared.config.Changes.{Changes}
use Rattle.xi_plain.specs.declared.command.Id.TheVariants.{NoId}
use Rattle.xi_plain.specs.declared.command.Fault.{Fault}
use Rattle.xi_plain.specs.declared.command.Fault.TheVariants.{Parse, Invalid, NoMethod, BadParams}
use Rattle.xi_plain.specs.declared.command.EditAct.{EditAct}
use Rattle.xi_plain.specs.declared.command.EditAct.TheVariants as Edit
use Rattle.xi_plain.specs.declared.command.Act.{Act}
use Rattle.xi_plain.specs.declared.command.Act.TheVariants.{Bad, Nothing, Configure, NewView, CloseView, Save, Edit}
use Rattle.xi_plain.specs.declared.command.Command.{Command}
use Rattle.case_front.specs.Members.{PlainMember, view, view_and_path, path_if_any, domain_and_changes, edit_members}
use Rattle.case_front.specs.Table.{front_names, edit_names}
use Rattle.json_rpc.specs.Request.{Request, LineRefusal, no_reading, no_request, line_request}
use Rattle.front_wire.specs.declared.edit.EditMethod.{EditMethod}
use Rattle.front_wire.specs.declared.edit.EditMethod.TheVariants.{Row, Free, Unknown, Unnamed}
use Rattle.front_wire.specs.Members.{first_bad, given, text, text_if_any, whole_of}
use Rattle.front_wire.specs.Edits.{edit_in_row}

-- a member that is refused
abbrev pub bad : List ℕ → Act
bad member = Bad (BadParams (chars member))

-- the act, or else the member that is refused
abbrev pub act_or_bad : Option (List ℕ) → Act → Act
act_or_bad None act = act
act_or_bad (Some member) act = bad member

-- the act, where each member is right; else the first that is not is refused
abbrev pub checked : List PlainMember → Data → Act → Act
checked members params act = act_or_bad (first_bad 0 members params) act

-- the row of a name among names
unfoldable pub row_of : List (List ℕ) → List ℕ → Option ℕ
row_of [] name = None
row_of (known ∷ names) name = if bytes_eq known name then Some 0 else option_map (λ row. row + 1) (row_of names name)

-- whether the name is one of those that have no effect by how they begin
abbrev pub is_free : List ℕ → Bool
is_free name = starts_with ◌==◌ name (codes "debug_")

-- the method that this row and this name are
abbrev pub method_with : Option ℕ → List ℕ → EditMethod
method_with (Some row) name = Row row
method_with None name = if is_free name then Free else Unknown (chars name)

-- the method that `edit` names
abbrev pub edit_method : Option (List ℕ) → EditMethod
edit_method None = Unnamed
edit_method (Some name) = method_with (row_of edit_names name) name

-- the edit of a view, or else the member that is refused
abbrev pub edit_of : List ℕ → Result EditAct (List ℕ) → Act
edit_of id (Ok act) = Edit id act
edit_of id (Err member) = bad member

-- what `edit` asks of a view, by its method and the parameters of that
abbrev pub edit_by : EditMethod → List ℕ → Data → Act
edit_by (Row row) id params = edit_of id (edit_in_row row params)
edit_by Free id params = Edit id Edit.Nothing
edit_by (Unknown name) id params = Bad (NoMethod name)
edit_by Unnamed id params = bad (codes "method")

-- what a known method asks, where each member of `edit` is right
abbrev pub known_edit : List PlainMember → EditMethod → Data → Act
known_edit members method params =
    checked members params (edit_by method (text (given members params 0)) (unwrap_or (given members params 2) null))

-- what `edit` asks. An unknown method is refused before any member
abbrev pub edit_with : List PlainMember → EditMethod → Data → Act
edit_with members (Unknown name) params = Bad (NoMethod name)
edit_with members (Row row) params = known_edit members (Row row) params
edit_with members Free params = known_edit members Free params
edit_with members Unnamed params = known_edit members Unnamed params

unfoldable pub edit_act : List PlainMember → Data → Act
edit_act members params = edit_with members (edit_method (option_and_then as_str (given members params 1))) params

-- a change that says nothing
abbrev pub no_changes : Changes
no_changes = record { tab = None; width = None; spaces = None }

-- what a key of a change says, where it is there: some number in a range, or a truth. None where it is wrong
abbrev pub number_between : ℕ → ℕ → Option Data → Option (Option ℕ)
number_between least most None = Some None
number_between least most (Some d) =
    option_and_then (λ n. if nat_le least n && nat_le n most then Some (Some n) else None) (whole_of d)

abbrev pub truth_there : Option Data → Option (Option Bool)
truth_there None = Some None
truth_there (Some d) = option_map Some (as_bool d)

-- what a change says, where each key that counts is right
abbrev pub changes_from : Option (Option ℕ) → Option (Option ℕ) → Option (Option Bool) → Option Changes
changes_from tab width spaces =
    option_and_then (λ t. option_and_then (λ w. option_map (λ s. record { tab = t; width = w; spaces = s }) spaces) width) tab

abbrev pub changes_of : Option Data → Option Changes
changes_of d =
    changes_from (number_between 1 16 (option_and_then (get (codes "tab_size")) d))
    (number_between 0 10000 (option_and_then (get (codes "wrap_width")) d))
    (truth_there (option_and_then (get (codes "translate_tabs_to_spaces")) d))

-- the change, or else the refusal
abbrev pub configured : Option Changes → Act
configured None = bad (codes "changes")
configured (Some changes) = Configure changes

-- whether the domain is the one that counts
abbrev pub is_general : Option (List ℕ) → Bool
is_general None = false
is_general (Some name) = bytes_eq name (codes "general")

-- what a change of the configuration asks: another domain than the one that counts changes nothing
abbrev pub change_in : Option Data → Option Data → Act
change_in domain changes =
    if is_general (option_and_then as_str domain) then configured (changes_of changes) else Configure no_changes

abbrev pub configure_act : List PlainMember → Data → Act
configure_act members params = checked members params (change_in (given members params 0) (given members params 1))

-- what asks for a view, for its end, and for a file to be written
abbrev pub open_act : List PlainMember → Data → Act
open_act members params = checked members params (NewView (text_if_any (given members params 0)))

abbrev pub close_act : List PlainMember → Data → Act
close_act members params = checked members params (CloseView (text (given members params 0)))

abbrev pub save_act : List PlainMember → Data → Act
save_act members params = checked members params (Save (text (given members params 0)) (text (given members params 1)))

-- each method with what it asks; the methods stand as in the table
abbrev pub line_acts : Data → List (List ℕ × Act)
line_acts params =
    (codes "client_started", Nothing) ∷
    (codes "close_view", close_act view params) ∷
    (codes "edit", edit_act edit_members params) ∷
    (codes "modify_user_config", configure_act domain_and_changes params) ∷
    (codes "new_view", open_act path_if_any params) ∷
    (codes "plugin", Nothing) ∷
    (codes "resize", Nothing) ∷
    (codes "save", save_act view_and_path params) ∷
    (codes "set_language", Nothing) ∷
    (codes "set_theme", Nothing) ∷
    (codes "tracing_config", Nothing) ∷ []

-- what these methods ask
abbrev pub acts_of_lines : List (List ℕ × Act) → List Act
acts_of_lines acts = map (λ a. a.1) acts

-- what the method in a row asks
unfoldable pub line_act : ℕ → Data → Act
line_act row params = unwrap_or (slice_get (acts_of_lines (line_acts params)) row) Nothing

-- what a method asks that is in no row
abbrev pub act_of_none : List ℕ → Act
act_of_none method = if is_free (encode_utf8_all method) then Nothing else Bad (NoMethod method)

-- what a method of this row and this name asks with its parameters
abbrev pub act_with : Option ℕ → List ℕ → Data → Act
act_with (Some row) method params = line_act row params
act_with None method params = act_of_none method

-- what a method asks with its parameters
abbrev pub act_of : List ℕ → Data → Act
act_of method params = act_with (row_of front_names (encode_utf8_all method)) method params

-- why a line that is no request is refused
abbrev pub fault_of : LineRefusal → Fault
fault_of no_reading = Parse
fault_of no_request = Invalid

-- the command of a request
abbrev pub request_command : Request → Command
request_command request = record { id = request.id; act = act_of request.method request.params }

-- the command of what a line is
abbrev pub command_from : Result Request LineRefusal → Command
command_from (Ok request) = request_command request
command_from (Err refusal) = record { id = NoId; act = Bad (fault_of refusal) }

-- THE COMMAND of a line
unfoldable pub command_of : List ℕ → Command
command_of line = command_from (line_request line)
