-- THE TABLE OF METHODS: what a front end may send, with which members.
use Rattle.std.specs.Prelude.{ℕ, List, [], ◌∷◌, map, slice_get, codes, Option, option_and_then}
use Rattle.case_front.specs.Members.{PlainMember, view, view_and_path, path_if_any, domain_and_changes, edit_members, chars_alone, two_numbers, three_numbers, four_numbers, touch_members, line_alone, search_members, match_members}

-- a method: its name, and the members of its parameters in the order in which they are read
pub record Method : Type 0 where
  pub name : List ℕ
  pub members : List PlainMember

-- the method with this name and these members
abbrev pub method : List ℕ → List PlainMember → Method
method name members = record { name = name; members = members }

-- the methods that a line may name, by their bytes
abbrev pub front_table : List Method
front_table =
    method (codes "client_started") [] ∷
    method (codes "close_view") view ∷
    method (codes "edit") edit_members ∷
    method (codes "modify_user_config") domain_and_changes ∷
    method (codes "new_view") path_if_any ∷
    method (codes "plugin") [] ∷
    method (codes "resize") [] ∷
    method (codes "save") view_and_path ∷
    method (codes "set_language") [] ∷
    method (codes "set_theme") [] ∷
    method (codes "tracing_config") [] ∷ []

-- the methods that `edit` may name, by their bytes
abbrev pub edit_table : List Method
edit_table =
    method (codes "click") four_numbers ∷
    method (codes "collapse_selections") [] ∷
    method (codes "copy") [] ∷
    method (codes "cut") [] ∷
    method (codes "delete_backward") [] ∷
    method (codes "delete_forward") [] ∷
    method (codes "delete_word_backward") [] ∷
    method (codes "delete_word_forward") [] ∷
    method (codes "drag") three_numbers ∷
    method (codes "find") search_members ∷
    method (codes "find_next") match_members ∷
    method (codes "find_previous") match_members ∷
    method (codes "gesture") touch_members ∷
    method (codes "goto_line") line_alone ∷
    method (codes "highlight_find") [] ∷
    method (codes "insert") chars_alone ∷
    method (codes "insert_newline") [] ∷
    method (codes "insert_tab") [] ∷
    method (codes "move_down") [] ∷
    method (codes "move_down_and_modify_selection") [] ∷
    method (codes "move_left") [] ∷
    method (codes "move_left_and_modify_selection") [] ∷
    method (codes "move_right") [] ∷
    method (codes "move_right_and_modify_selection") [] ∷
    method (codes "move_to_beginning_of_document") [] ∷
    method (codes "move_to_beginning_of_document_and_modify_selection") [] ∷
    method (codes "move_to_end_of_document") [] ∷
    method (codes "move_to_end_of_document_and_modify_selection") [] ∷
    method (codes "move_to_left_end_of_line") [] ∷
    method (codes "move_to_left_end_of_line_and_modify_selection") [] ∷
    method (codes "move_to_right_end_of_line") [] ∷
    method (codes "move_to_right_end_of_line_and_modify_selection") [] ∷
    method (codes "move_up") [] ∷
    method (codes "move_up_and_modify_selection") [] ∷
    method (codes "move_word_left") [] ∷
    method (codes "move_word_left_and_modify_selection") [] ∷
    method (codes "move_word_right") [] ∷
    method (codes "move_word_right_and_modify_selection") [] ∷
    method (codes "paste") chars_alone ∷
    method (codes "redo") [] ∷
    method (codes "request_lines") two_numbers ∷
    method (codes "resize") [] ∷
    method (codes "scroll") two_numbers ∷
    method (codes "select_all") [] ∷
    method (codes "undo") [] ∷ []

-- the names of methods
abbrev pub names_in : List Method → List (List ℕ)
names_in table = map (λ m. m.name) table

abbrev pub front_names : List (List ℕ)
front_names = names_in front_table

abbrev pub edit_names : List (List ℕ)
edit_names = names_in edit_table

-- the members of each method, and the one at a place of the method in a row
abbrev pub members_in : List Method → List (List PlainMember)
members_in table = map (λ m. m.members) table

abbrev pub member_at : List Method → ℕ → ℕ → Option PlainMember
member_at table row place = option_and_then (λ members. slice_get members place) (slice_get (members_in table) row)
