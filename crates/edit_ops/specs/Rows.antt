-- Worked rows: small texts with what the definitions of commands are to give.
use Rattle.std.specs.Prelude.{◌≡◌, ℕ, Bool, List, [], ◌∷◌, true, false}
use Rattle.plain_text.specs.declared.selection.Region.{Region}
use Rattle.plain_screen.specs.View.{whole_lines}
use Rattle.xi_plain.specs.declared.config.Config.{Config}
use Rattle.xi_plain.specs.declared.command.EditAct.{EditAct}
use Rattle.xi_plain.specs.declared.command.EditAct.TheVariants.{Insert, Paste, InsertNewline, InsertTab, DeleteBackward, DeleteForward, DeleteWordBackward, DeleteWordForward, Cut, Copy, SelectAll, Collapse, Move, Click, Drag, Gesture, GotoLine, Nothing}
use Rattle.xi_plain.specs.declared.motion.Touch.TheVariants as Touch
use Rattle.xi_plain.specs.declared.motion.Motion.TheVariants as Motion
use Rattle.selection_core.specs.Selection.{caret_of, spanning}
use Rattle.edit_ops.specs.Commands.{copied_text, effect_of}
use Rattle.edit_ops.specs.Replacements.{text_with}

-- a tab is four columns wide; a tab key inserts spaces, or a tab
abbrev pub with_spaces : Bool → Config
with_spaces spaces = record { tab = 4; width = 0; spaces = spaces }

-- what a command gives on a text that is not wrapped: a text and regions
pub record Gives (spaces : Bool) (before : List ℕ) (regions : List Region) (act : EditAct) (after : List ℕ) (then : List Region) : Type 0 where
  pub text : text_with (effect_of (with_spaces spaces) before (whole_lines before) regions act).replacements before ≡ after
  pub regions_after : (effect_of (with_spaces spaces) before (whole_lines before) regions act).regions ≡ then

-- `abcd`
abbrev pub abcd : List ℕ
abcd = 97 ∷ 98 ∷ 99 ∷ 100 ∷ []

-- two halves of it
abbrev pub halves : List Region
halves = spanning true 0 2 ∷ spanning true 2 4 ∷ []

-- every region is edited, and each caret stands after its text
pub record Typing : Type 0 where
  pub carets : Gives false abcd (caret_of 1 ∷ caret_of 3 ∷ []) (Insert (88 ∷ 89 ∷ [])) (97 ∷ 88 ∷ 89 ∷ 98 ∷ 99 ∷ 88 ∷ 89 ∷ 100 ∷ []) (caret_of 3 ∷ caret_of 7 ∷ [])
  pub regions : Gives false abcd halves (Insert (88 ∷ [])) (88 ∷ 88 ∷ []) (caret_of 1 ∷ caret_of 2 ∷ [])
  pub cut : Gives false abcd halves Cut [] (caret_of 0 ∷ [])
  pub copied : copied_text abcd halves ≡ 97 ∷ 98 ∷ 10 ∷ 99 ∷ 100 ∷ []
  pub nothing : Gives false abcd (spanning false 1 3 ∷ []) (Insert []) (97 ∷ 100 ∷ []) (caret_of 1 ∷ [])
  pub line : Gives false abcd (caret_of 2 ∷ []) InsertNewline (97 ∷ 98 ∷ 10 ∷ 99 ∷ 100 ∷ []) (caret_of 3 ∷ [])

-- `foobar baz`
abbrev pub foobar_baz : List ℕ
foobar_baz = 102 ∷ 111 ∷ 111 ∷ 98 ∷ 97 ∷ 114 ∷ 32 ∷ 98 ∷ 97 ∷ 122 ∷ []

-- two carets in one word delete it once; a mark goes with its letter, and CR with its LF; nothing at the ends of the text
pub record Deleting : Type 0 where
  pub word : Gives false foobar_baz (caret_of 3 ∷ caret_of 5 ∷ []) DeleteWordBackward (114 ∷ 32 ∷ 98 ∷ 97 ∷ 122 ∷ []) (caret_of 0 ∷ [])
  pub within : Gives false foobar_baz (spanning true 2 4 ∷ caret_of 5 ∷ []) DeleteWordBackward (114 ∷ 32 ∷ 98 ∷ 97 ∷ 122 ∷ []) (caret_of 0 ∷ [])
  pub next_word : Gives false foobar_baz (caret_of 6 ∷ []) DeleteWordForward (102 ∷ 111 ∷ 111 ∷ 98 ∷ 97 ∷ 114 ∷ []) (caret_of 6 ∷ [])
  pub letter : Gives false (97 ∷ 101 ∷ 769 ∷ 98 ∷ []) (caret_of 4 ∷ []) DeleteBackward (97 ∷ 101 ∷ 769 ∷ []) (caret_of 3 ∷ [])
  pub marked : Gives false (97 ∷ 101 ∷ 769 ∷ []) (caret_of 3 ∷ []) DeleteBackward (97 ∷ []) (caret_of 1 ∷ [])
  pub feed : Gives false (97 ∷ 13 ∷ 10 ∷ 98 ∷ []) (caret_of 1 ∷ []) DeleteForward (97 ∷ 98 ∷ []) (caret_of 1 ∷ [])
  pub start : Gives false abcd (caret_of 0 ∷ []) DeleteBackward abcd (caret_of 0 ∷ [])
  pub end : Gives false abcd (caret_of 4 ∷ []) DeleteForward abcd (caret_of 4 ∷ [])

-- a tab of spaces reaches the next tab stop, by columns before the command
pub record Tabs : Type 0 where
  pub each : Gives true (97 ∷ 98 ∷ []) (caret_of 0 ∷ caret_of 1 ∷ []) InsertTab
      (32 ∷ 32 ∷ 32 ∷ 32 ∷ 97 ∷ 32 ∷ 32 ∷ 32 ∷ 98 ∷ []) (caret_of 4 ∷ caret_of 8 ∷ [])
  pub past_tab : Gives true (97 ∷ 9 ∷ 98 ∷ []) (caret_of 3 ∷ []) InsertTab (97 ∷ 9 ∷ 98 ∷ 32 ∷ 32 ∷ 32 ∷ []) (caret_of 6 ∷ [])
  pub wide : Gives true (20013 ∷ []) (caret_of 1 ∷ []) InsertTab (20013 ∷ 32 ∷ 32 ∷ []) (caret_of 3 ∷ [])
  pub tab : Gives false (97 ∷ 98 ∷ []) (caret_of 1 ∷ []) InsertTab (97 ∷ 9 ∷ 98 ∷ []) (caret_of 2 ∷ [])

-- `abcdef`, LF and `xyz`
abbrev pub letters : List ℕ
letters = 97 ∷ 98 ∷ 99 ∷ 100 ∷ 101 ∷ 102 ∷ 10 ∷ 120 ∷ 121 ∷ 122 ∷ []

-- a command that edits nothing leaves the text, and these regions
pub record Leaves (before : List ℕ) (regions : List Region) (act : EditAct) (then : List Region) : Type 0 where
  pub gives : Gives false before regions act before then

-- the last region follows a drag and a range; a toggle takes away what the point touches
pub record Following : Type 0 where
  pub drag : Leaves letters (caret_of 2 ∷ caret_of 8 ∷ []) (Drag 0 4 0) (spanning false 4 8 ∷ [])
  pub range : Leaves letters (spanning false 1 4 ∷ caret_of 5 ∷ []) (Gesture 0 0 Touch.Range) (spanning false 0 5 ∷ [])
  pub others : Leaves letters (caret_of 1 ∷ caret_of 5 ∷ []) (Gesture 0 3 Touch.Range) (caret_of 1 ∷ spanning false 3 5 ∷ [])
  pub more : Leaves letters (caret_of 1 ∷ []) (Gesture 1 1 Touch.Toggle) (caret_of 1 ∷ caret_of 8 ∷ [])
  pub fewer : Leaves letters (spanning false 1 3 ∷ spanning false 3 5 ∷ caret_of 8 ∷ []) (Gesture 0 3 Touch.Toggle) (caret_of 8 ∷ [])
  pub last : Leaves letters (spanning true 1 3 ∷ spanning false 3 5 ∷ []) (Gesture 0 3 Touch.Toggle) (spanning false 3 5 ∷ [])
  pub collapse : Leaves letters (caret_of 2 ∷ spanning false 4 8 ∷ []) Collapse (caret_of 4 ∷ [])
  pub all : Leaves letters (spanning false 4 8 ∷ []) SelectAll (spanning true 0 10 ∷ [])

-- `ab`, CR, LF and `cd`
abbrev pub ab_cd : List ℕ
ab_cd = 97 ∷ 98 ∷ 13 ∷ 10 ∷ 99 ∷ 100 ∷ []

-- a point before a line's end, inside a character and past the lines; words and lines around it
pub record Pointing : Type 0 where
  pub end : Leaves ab_cd (caret_of 0 ∷ []) (Click 0 99 0 1) (caret_of 2 ∷ [])
  pub word : Leaves ab_cd (caret_of 0 ∷ []) (Click 1 2 0 2) (spanning true 4 6 ∷ [])
  pub inside : Leaves (20013 ∷ 97 ∷ []) (caret_of 2 ∷ []) (Click 0 2 0 1) (caret_of 0 ∷ [])
  pub bytes : Leaves (20013 ∷ 97 ∷ []) (caret_of 0 ∷ []) (Click 0 3 0 1) (caret_of 1 ∷ [])
  pub past : Leaves ab_cd (caret_of 0 ∷ []) (Click 2 0 0 1) (caret_of 6 ∷ [])
  pub line : Leaves ab_cd (caret_of 0 ∷ []) (Click 0 1 0 3) (spanning true 0 4 ∷ [])
  pub feeds : Leaves (97 ∷ 10 ∷ 10 ∷ 98 ∷ []) (caret_of 0 ∷ []) (Gesture 1 0 Touch.Word) (spanning true 1 3 ∷ [])
  pub first : Leaves ab_cd (caret_of 3 ∷ []) (GotoLine 0) (caret_of 0 ∷ [])
  pub second : Leaves ab_cd (caret_of 3 ∷ []) (GotoLine 1) (caret_of 4 ∷ [])
  pub none : Leaves ab_cd (caret_of 3 ∷ []) (GotoLine 2) (caret_of 6 ∷ [])

-- what a command of a caret gives on the empty text: a text and a caret
abbrev pub ToEmpty : EditAct → List ℕ → ℕ → Type 0
ToEmpty act after gap = Gives true [] (caret_of 0 ∷ []) act after (caret_of gap ∷ [])

-- on the empty text each command gives what it adds, and a caret after that
pub record Empty : Type 0 where
  pub insert : ToEmpty (Insert (97 ∷ [])) (97 ∷ []) 1
  pub paste : ToEmpty (Paste (97 ∷ [])) (97 ∷ []) 1
  pub newline : ToEmpty InsertNewline (10 ∷ []) 1
  pub tab : ToEmpty InsertTab (32 ∷ 32 ∷ 32 ∷ 32 ∷ []) 4
  pub backward : ToEmpty DeleteBackward [] 0
  pub forward : ToEmpty DeleteForward [] 0
  pub word_backward : ToEmpty DeleteWordBackward [] 0
  pub word_forward : ToEmpty DeleteWordForward [] 0
  pub cut : ToEmpty Cut [] 0
  pub copy : ToEmpty Copy [] 0
  pub all : ToEmpty SelectAll [] 0
  pub collapse : ToEmpty Collapse [] 0
  pub move : ToEmpty (Move Motion.Right true) [] 0
  pub click : ToEmpty (Click 0 0 0 1) [] 0
  pub word : ToEmpty (Click 0 0 0 2) [] 0
  pub line : ToEmpty (Click 0 0 0 3) [] 0
  pub drag : ToEmpty (Drag 1 0 0) [] 0
  pub toggle : ToEmpty (Gesture 0 0 Touch.Toggle) [] 0
  pub range : ToEmpty (Gesture 0 0 Touch.Range) [] 0
  pub goto : ToEmpty (GotoLine 3) [] 0
  pub nothing : ToEmpty Nothing [] 0
