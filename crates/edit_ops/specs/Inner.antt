-- What private functions say: replacements in order, the parts of their edit, a copy in the making, where deletions reach, and pieces.
use Rattle.std.specs.Prelude.{⊤, ◌≡◌, ℕ, ◌+◌, ◌-◌, ◌<◌, ◌≤◌, max, Bool, true, false, not, nat_lt, if◌then◌else◌, List, [], ◌∷◌, ◌++◌, length, Some, None, slice_get, slice_range}
use Rattle.std.specs.Char.{len_utf8}
use Rattle.std.specs.List.{filter, flat_map}
use Rattle.plain_text.specs.declared.run.Run.{Run}
use Rattle.plain_text.specs.declared.selection.Region.{Region}
use Rattle.plain_edits.specs.declared.delta.Added.{Added}
use Rattle.plain_screen.specs.declared.piece.Piece.{Piece}
use Rattle.xi_plain.specs.declared.command.EditAct.{EditAct}
use Rattle.xi_plain.specs.declared.command.EditAct.TheVariants.{Insert, Paste, InsertNewline, InsertTab, DeleteBackward, DeleteForward, DeleteWordBackward, DeleteWordForward, Cut}
use Rattle.xi_plain.specs.declared.motion.Motion.{Motion}
use Rattle.xi_plain.specs.declared.motion.Motion.TheVariants.{Left, Right, WordLeft, WordRight}
use Rattle.selection_core.specs.Mapped.{AreWithin}
use Rattle.selection_core.specs.Selection.{IsSelection, greater_end, is_caret, lesser_end}
use Rattle.movement_core.specs.Places.{left_of, right_of}
use Rattle.movement_core.specs.Words.{word_left, word_right}
use Rattle.edit_ops.specs.declared.numbered.Head.{Head}
use Rattle.edit_ops.specs.declared.replacement.Replacement.{Replacement}
use Rattle.edit_ops.specs.Commands.{IsDoneOnText, copied_text, effect_of}

-- a run, unless it is empty
abbrev pub run_if : ℕ → ℕ → List Run
run_if start end = if nat_lt start end then (record { start = start; end = end }) ∷ [] else []

-- the runs that replacements in order keep of a base, from a gap on
abbrev pub kept_from : ℕ → ℕ → List Replacement → List Run
kept_from base at [] = run_if at base
kept_from base at (r ∷ replacements) =
    if nat_lt r.range.start r.range.end then run_if at r.range.start ++ kept_from base (max at r.range.end) replacements
    else kept_from base at replacements

-- an addition, unless it is empty
abbrev pub added_if : ℕ → List ℕ → List Added
added_if gap [] = []
added_if gap (c ∷ text) = (record { gap = gap; text = c ∷ text }) ∷ []

-- the additions of replacements
abbrev pub additions_of : List Replacement → List Added
additions_of replacements = flat_map (λ r. added_if r.range.start r.text) replacements

-- the text of a copy from here on, where the first text of all is still to come, or each one goes after an LF
abbrev pub copied_on : List ℕ → Bool → List Region → List ℕ
copied_on text true regions = copied_text text regions
copied_on text false regions =
    flat_map (λ region. (10 ∷ []) ++ slice_range text (lesser_end region) (greater_end region)) (filter (λ region. not (is_caret region)) regions)

-- the motion is one that deletions take
abbrev pub IsSideward : Motion → Type 0
IsSideward Left = ⊤
IsSideward Right = ⊤
IsSideward WordLeft = ⊤
IsSideward WordRight = ⊤
IsSideward motion = ⊥

-- where such a motion takes a caret
abbrev pub reached : List ℕ → Motion → ℕ → ℕ
reached text Left gap = left_of text gap
reached text Right gap = right_of text gap
reached text WordLeft gap = word_left text gap
reached text WordRight gap = word_right text gap
reached text motion gap = gap

-- the command edits nothing, and is done on a text and its regions alone
abbrev pub IsSelecting : EditAct → Type 0
IsSelecting (Insert chars) = ⊥
IsSelecting (Paste chars) = ⊥
IsSelecting InsertNewline = ⊥
IsSelecting InsertTab = ⊥
IsSelecting DeleteBackward = ⊥
IsSelecting DeleteForward = ⊥
IsSelecting DeleteWordBackward = ⊥
IsSelecting DeleteWordForward = ⊥
IsSelecting Cut = ⊥
IsSelecting act = IsDoneOnText act

-- the regions after such a command, where a tab is so many columns wide
abbrev pub selected_by : ℕ → List ℕ → List Piece → List Region → EditAct → List Region
selected_by tab text pieces regions act = (effect_of (record { tab = tab; width = 0; spaces = false }) text pieces regions act).regions

-- these are the wanted regions, they are a selection, and they lie in the text
pub record AreSelected (text : List ℕ) (wanted regions : List Region) : Type 0 where
  pub is : regions ≡ wanted
  pub sound : IsSelection regions
  pub inside : AreWithin (length text) regions

-- how many of the first characters take at most so many bytes together
abbrev pub gaps_within : ℕ → List ℕ → ℕ
gaps_within bytes [] = 0
gaps_within bytes (c ∷ characters) = if nat_lt bytes (len_utf8 c) then 0 else 1 + gaps_within (bytes - len_utf8 c) characters

-- the last piece up to a layout line that has a number, which is the first one of its logical line
pub record IsHeadOf (pieces : List Piece) (line : ℕ) (head : Head) : Type 0 where
  pub piece : Piece
  pub there : slice_get pieces head.index ≡ Some piece
  pub start : piece.start ≡ head.start
  pub number : piece.ln ≡ Some (head.line + 1)
  pub up_to : head.index ≤ line
  pub last : (index : ℕ) (other : Piece) → head.index < index → index ≤ line → slice_get pieces index ≡ Some other → other.ln ≡ None
