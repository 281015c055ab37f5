-- WHAT EACH METHOD OF `edit` ASKS, by what its members give.
use Rattle.std.specs.Prelude.{ℕ, nat_lt, true, false, if◌then◌else◌, List, [], ◌∷◌, map, slice_get, codes, Option, Some, None, unwrap_or, Result, Ok, Err}
use Rattle.serde_json.specs.Data.{Data}
use Rattle.xi_plain.specs.declared.motion.Motion.{Motion}
use Rattle.xi_plain.specs.declared.motion.Motion.TheVariants as To
use Rattle.xi_plain.specs.declared.command.EditAct.{EditAct}
use Rattle.xi_plain.specs.declared.command.EditAct.TheVariants as Edit
use Rattle.case_front.specs.Table.{edit_table}
use Rattle.front_wire.specs.Members.{first_bad, members_of_row, given, text, whole, truth, touch}

-- each method with what it asks, where the member at each place gives this; the methods stand as in the table
abbrev pub edit_acts : (ℕ → Option Data) → List (List ℕ × EditAct)
edit_acts m =
    (codes "click", Edit.Click (whole (m 0)) (whole (m 1)) (whole (m 2)) (whole (m 3))) ∷
    (codes "collapse_selections", Edit.Collapse) ∷
    (codes "copy", Edit.Copy) ∷
    (codes "cut", Edit.Cut) ∷
    (codes "delete_backward", Edit.DeleteBackward) ∷
    (codes "delete_forward", Edit.DeleteForward) ∷
    (codes "delete_word_backward", Edit.DeleteWordBackward) ∷
    (codes "delete_word_forward", Edit.DeleteWordForward) ∷
    (codes "drag", Edit.Drag (whole (m 0)) (whole (m 1)) (whole (m 2))) ∷
    (codes "find", Edit.Find (text (m 0)) (truth (m 1)) (truth (m 2)) (truth (m 3))) ∷
    (codes "find_next", Edit.FindNext (truth (m 0)) (truth (m 1))) ∷
    (codes "find_previous", Edit.FindPrevious (truth (m 0)) (truth (m 1))) ∷
    (codes "gesture", Edit.Gesture (whole (m 0)) (whole (m 1)) (touch (m 2))) ∷
    (codes "goto_line", Edit.GotoLine (whole (m 0))) ∷
    (codes "highlight_find", Edit.Nothing) ∷
    (codes "insert", Edit.Insert (text (m 0))) ∷
    (codes "insert_newline", Edit.InsertNewline) ∷
    (codes "insert_tab", Edit.InsertTab) ∷
    (codes "move_down", Edit.Move To.Down false) ∷
    (codes "move_down_and_modify_selection", Edit.Move To.Down true) ∷
    (codes "move_left", Edit.Move To.Left false) ∷
    (codes "move_left_and_modify_selection", Edit.Move To.Left true) ∷
    (codes "move_right", Edit.Move To.Right false) ∷
    (codes "move_right_and_modify_selection", Edit.Move To.Right true) ∷
    (codes "move_to_beginning_of_document", Edit.Move To.TextStart false) ∷
    (codes "move_to_beginning_of_document_and_modify_selection", Edit.Move To.TextStart true) ∷
    (codes "move_to_end_of_document", Edit.Move To.TextEnd false) ∷
    (codes "move_to_end_of_document_and_modify_selection", Edit.Move To.TextEnd true) ∷
    (codes "move_to_left_end_of_line", Edit.Move To.LineStart false) ∷
    (codes "move_to_left_end_of_line_and_modify_selection", Edit.Move To.LineStart true) ∷
    (codes "move_to_right_end_of_line", Edit.Move To.LineEnd false) ∷
    (codes "move_to_right_end_of_line_and_modify_selection", Edit.Move To.LineEnd true) ∷
    (codes "move_up", Edit.Move To.Up false) ∷
    (codes "move_up_and_modify_selection", Edit.Move To.Up true) ∷
    (codes "move_word_left", Edit.Move To.WordLeft false) ∷
    (codes "move_word_left_and_modify_selection", Edit.Move To.WordLeft true) ∷
    (codes "move_word_right", Edit.Move To.WordRight false) ∷
    (codes "move_word_right_and_modify_selection", Edit.Move To.WordRight true) ∷
    (codes "paste", Edit.Paste (text (m 0))) ∷
    (codes "redo", Edit.Redo) ∷
    (codes "request_lines", Edit.RequestLines (whole (m 0)) (whole (m 1))) ∷
    (codes "resize", Edit.Nothing) ∷
    (codes "scroll", Edit.Scroll (whole (m 0)) (whole (m 1))) ∷
    (codes "select_all", Edit.SelectAll) ∷
    (codes "undo", Edit.Undo) ∷ []

-- the names of these methods, and what they ask
abbrev pub acts_in : List (List ℕ × EditAct) → List EditAct
acts_in acts = map (λ a. a.1) acts

-- the edit of lines, refused where its last line is below its first
abbrev pub with_lines_in_order : EditAct → Result EditAct (List ℕ)
with_lines_in_order (Edit.Scroll first last) = if nat_lt last first then Err (codes "1") else Ok (Edit.Scroll first last)
with_lines_in_order (Edit.RequestLines first last) = if nat_lt last first then Err (codes "1") else Ok (Edit.RequestLines first last)
with_lines_in_order act = Ok act

-- what the method in a row asks, where all its members are right
unfoldable pub act_in_row : ℕ → Data → EditAct
act_in_row row params = unwrap_or (slice_get (acts_in (edit_acts (given (members_of_row edit_table row) params))) row) Edit.Nothing

-- what the method in a row asks, or else the member that is refused
abbrev pub edit_or_bad : Option (List ℕ) → EditAct → Result EditAct (List ℕ)
edit_or_bad None act = with_lines_in_order act
edit_or_bad (Some bad) act = Err bad

abbrev pub edit_in_row : ℕ → Data → Result EditAct (List ℕ)
edit_in_row row params = edit_or_bad (first_bad 0 (members_of_row edit_table row) params) (act_in_row row params)
