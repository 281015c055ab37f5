-- Worked rows: small cases with the values that the definitions are to give.
use Rattle.std.specs.Prelude.{◌≡◌, ℕ, true, false, List, [], ◌∷◌, Some, None, codes}
use Rattle.plain_edits.specs.declared.delta.El.TheVariants.{Copy as copy_el, Insert as insert_el}
use Rattle.plain_edits.specs.declared.delta.Delta.{Delta}
use Rattle.plain_screen.specs.declared.screen.Line.{Line}
use Rattle.plain_screen.specs.declared.screen.Op.TheVariants.{Copy, Skip, Invalidate, Ins}
use Rattle.plain_edits.specs.Delta.{misfit_of}
use Rattle.plain_edits.specs.History.{History, head, loaded, text_at}
use Rattle.plain_edits.specs.Edits.{plain_edit, edited, undid, edit_refusal}
use Rattle.plain_edits.specs.Collection.{is_clean}
use Rattle.plain_screen.specs.Screen.{Screen, screen_after}
use Rattle.plain_screen.specs.Plan.{update_plan}
use Rattle.plain_text.specs.InputLines.{lines_of}

-- a text of `len` bytes that gets an insertion at a place
abbrev pub inserting : ℕ → ℕ → List ℕ → Delta
inserting len at text = record {
  els = copy_el 0 at ∷ insert_el text ∷ copy_el at len ∷ [];
  base_len = len;
}

-- a text of `len` bytes that loses the bytes between two places
abbrev pub deleting : ℕ → ℕ → ℕ → Delta
deleting len from to = record { els = copy_el 0 from ∷ copy_el to len ∷ []; base_len = len }

-- a history after one more edit
abbrev pub then_edit : History → ℕ → Delta → ℕ → ℕ → History
then_edit history base delta group priority = edited history (plain_edit history base delta group priority 0)

-- two insertions at one gap of `ac`, against the loaded text: the one of the higher priority goes further right in both orders
pub record PrioritiesAtOneGap : Type 0 where
  pub higher_first :
      text_at (then_edit (then_edit (loaded (codes "ac")) 0 (inserting 2 1 (codes "X")) 1 2) 0 (inserting 2 1 (codes "Y")) 2 1) 2 ≡
      codes "aYXc"
  pub lower_first :
      text_at (then_edit (then_edit (loaded (codes "ac")) 0 (inserting 2 1 (codes "Y")) 2 1) 0 (inserting 2 1 (codes "X")) 1 2) 2 ≡
      codes "aYXc"

-- the text `aé`, of 3 bytes, and a delta over it whose copies are given
abbrev pub short_text : List ℕ
short_text = 97 ∷ 233 ∷ []

-- each kind of misfit, with its place; and the delta without elements over the empty text, which is accepted
pub record FourMisfits : Type 0 where
  pub base_length : misfit_of short_text (record { els = []; base_len = 4 }) ≡ Some (record { kind = 1; at = 4 })
  pub order : misfit_of short_text (record { els = copy_el 0 1 ∷ copy_el 0 3 ∷ []; base_len = 3 }) ≡ Some (record { kind = 2; at = 0 })
  pub end : misfit_of short_text (record { els = copy_el 0 4 ∷ []; base_len = 3 }) ≡ Some (record { kind = 3; at = 4 })
  pub place : misfit_of short_text (record { els = copy_el 0 2 ∷ []; base_len = 3 }) ≡ Some (record { kind = 4; at = 2 })
  pub nothing : edit_refusal (loaded []) 0 0 (record { els = []; base_len = 0 }) ≡ None
  pub first_revision : head (then_edit (loaded []) 0 (record { els = []; base_len = 0 }) 1 0) ≡ 1

-- the text `ab`, of which group 1 deletes `b`, and to whose end `X` is added against that revision
abbrev pub after_tombstone : History
after_tombstone = then_edit (then_edit (loaded (codes "ab")) 0 (deleting 2 1 2) 1 0) 1 (inserting 1 1 (codes "X")) 2 0

-- the insertion went after the deleted character
pub record InsertionAfterTombstone : Type 0 where
  pub deleted : text_at after_tombstone 2 ≡ codes "aX"
  pub revived : text_at (undid after_tombstone (1 ∷ [])) 3 ≡ codes "abX"

-- the text `ptq`: revision 1 deletes `t`; then `E` goes in against revision 0, and `F` against revision 1, with a lower priority
abbrev pub eldest_decides : History
eldest_decides =
    then_edit (then_edit (then_edit (loaded (codes "ptq")) 0 (deleting 3 1 2) 1 0) 0 (inserting 3 1 (codes "E")) 2 1) 1
    (inserting 2 1 (codes "F")) 3 0

-- `F` goes right of the deleted character, and so right of `E`; revision 2 keeps floor 1 from being clean, and revision 3 floor 2
pub record EldestEditDecides : Type 0 where
  pub text : text_at eldest_decides 3 ≡ codes "pEFq"
  pub first_unclean : is_clean eldest_decides.revisions 1 ≡ false
  pub second_unclean : is_clean eldest_decides.revisions 2 ≡ false
  pub head_clean : is_clean eldest_decides.revisions 3 ≡ true

-- an empty text: group 1 inserts `abc`, group 2 deletes `b`, and group 3 inserts `X` after it, against revision 1
abbrev pub three_groups : History
three_groups =
    then_edit (then_edit (then_edit (loaded []) 0 (inserting 0 0 (codes "abc")) 1 0) 1 (deleting 3 1 2) 2 0) 1
    (inserting 3 2 (codes "X")) 3 0

-- what each set of undone groups shows
pub record UndoOfAnySet : Type 0 where
  pub none : text_at three_groups 3 ≡ codes "aXc"
  pub second : text_at (undid three_groups (2 ∷ [])) 4 ≡ codes "abXc"
  pub first : text_at (undid three_groups (1 ∷ [])) 4 ≡ codes "X"
  pub both : text_at (undid three_groups (1 ∷ 2 ∷ [])) 4 ≡ codes "X"

-- a line of a few characters
abbrev pub numbered_line : ℕ → List ℕ → List ℕ → Line
numbered_line number text cursor = record { text = text; ln = Some number; cursor = cursor; styles = [] }

-- a screen of three lines, the second of which is not valid
abbrev pub small_screen : Screen
small_screen = Some (numbered_line 1 (codes "a") []) ∷ None ∷ Some (numbered_line 3 (codes "c") []) ∷ []

-- what each operation does to it
pub record SmallScreen : Type 0 where
  pub copy_whole : screen_after small_screen (Copy 3 None ∷ []) ≡ Some small_screen
  pub copy_numbers : screen_after small_screen (Copy 3 (Some 7) ∷ []) ≡
      Some (Some (numbered_line 7 (codes "a") []) ∷ None ∷ Some (numbered_line 8 (codes "c") []) ∷ [])
  pub copy_past : screen_after small_screen (Copy 4 None ∷ []) ≡ None
  pub skip : screen_after small_screen (Skip 2 ∷ Copy 1 (Some 1) ∷ []) ≡ Some (Some (numbered_line 1 (codes "c") []) ∷ [])
  pub skip_past : screen_after small_screen (Copy 2 None ∷ Skip 2 ∷ []) ≡ None
  pub invalidate : screen_after small_screen (Invalidate 2 ∷ []) ≡ Some (None ∷ None ∷ [])
  pub ins : screen_after small_screen (Ins (numbered_line 1 [] (0 ∷ []) ∷ []) ∷ []) ≡ Some (Some (numbered_line 1 [] (0 ∷ [])) ∷ [])

-- the plan of an opening; and that of four lines of which the first and the last are valid on the screen, with two lines in the window
pub record Plans : Type 0 where
  pub opening : update_plan (record { start = 0; end = 10 }) (record { start = 0; end = 0 }) (numbered_line 1 [] (0 ∷ []) ∷ []) [] ≡
      Ins (numbered_line 1 [] (0 ∷ []) ∷ []) ∷ []
  pub mixed : update_plan (record { start = 0; end = 2 }) (record { start = 0; end = 0 })
      (numbered_line 1 (codes "a") [] ∷ numbered_line 2 (codes "b") [] ∷ numbered_line 3 (codes "c") [] ∷ numbered_line 4 (codes "d") [] ∷ [])
      (Some (0, true) ∷ None ∷ None ∷ Some (2, true) ∷ []) ≡
      Copy 1 (Some 1) ∷ Ins (numbered_line 2 (codes "b") [] ∷ []) ∷ Invalidate 1 ∷ Skip 1 ∷ Copy 1 (Some 4) ∷ []

-- an input is cut after each LF, and a last piece counts where it is not empty
pub record InputLines : Type 0 where
  pub whole : lines_of (97 ∷ 10 ∷ 10 ∷ 98 ∷ []) ≡ (97 ∷ 10 ∷ []) ∷ (10 ∷ []) ∷ (98 ∷ []) ∷ []
  pub ended : lines_of (97 ∷ 10 ∷ []) ≡ (97 ∷ 10 ∷ []) ∷ []
