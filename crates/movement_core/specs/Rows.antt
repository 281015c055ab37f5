-- Worked rows: small texts with the values that the definitions are to give.
use Rattle.std.specs.Prelude.{◌≡◌, ℕ, List, [], ◌∷◌, Some, true, false}
use Rattle.plain_screen.specs.View.{whole_lines}
use Rattle.xi_plain.specs.declared.motion.Motion.TheVariants.{Up, Down}
use Rattle.selection_core.specs.Selection.{caret_of}
use Rattle.movement_core.specs.Places.{left_of, right_of}
use Rattle.movement_core.specs.Lines.{line_end}
use Rattle.movement_core.specs.Words.{word_left, word_right}
use Rattle.movement_core.specs.Motions.{region_after}

-- `aé`, LF and `b`, where the accent is a character of its own
abbrev pub accent : List ℕ
accent = 101 ∷ 769 ∷ 10 ∷ 98 ∷ []

-- a step passes over a cluster, and over an LF
pub record Steps : Type 0 where
  pub cluster : right_of accent 0 ≡ 2
  pub out : right_of accent 1 ≡ 2
  pub feed : right_of accent 2 ≡ 3
  pub end : right_of accent 4 ≡ 4
  pub back : left_of accent 3 ≡ 2
  pub start : left_of accent 0 ≡ 0

-- `a-b`, LF and `cd` with two spaces before it
abbrev pub words : List ℕ
words = 97 ∷ 45 ∷ 98 ∷ 10 ∷ 32 ∷ 32 ∷ 99 ∷ 100 ∷ []

-- a hyphen, an accent on it, and `a`
abbrev pub marked : List ℕ
marked = 45 ∷ 769 ∷ 97 ∷ []

-- a word ends where the class changes, and the next one is found across an LF; from inside a cluster it goes outward
pub record Words : Type 0 where
  pub class : word_right words 0 ≡ 1
  pub across : word_right words 3 ≡ 8
  pub back : word_left words 6 ≡ 2
  pub within : word_left words 8 ≡ 6
  pub outward_right : word_right marked 0 ≡ 2
  pub outward_left : word_left marked 3 ≡ 0

-- `abc`, LF, `x`, LF and `abc`
abbrev pub three_lines : List ℕ
three_lines = 97 ∷ 98 ∷ 99 ∷ 10 ∷ 120 ∷ 10 ∷ 97 ∷ 98 ∷ 99 ∷ []

-- a short line is passed over with the goal kept; the first line goes up to the text's start
pub record UpAndDown : Type 0 where
  pub short : region_after 4 three_lines (whole_lines three_lines) Down false (caret_of 2) ≡ record { anchor = 5; caret = 5; goal = Some 2 }
  pub kept : region_after 4 three_lines (whole_lines three_lines) Down false (record { anchor = 5; caret = 5; goal = Some 2 })
      ≡ record { anchor = 8; caret = 8; goal = Some 2 }
  pub top : region_after 4 three_lines (whole_lines three_lines) Up true (caret_of 2) ≡ record { anchor = 2; caret = 0; goal = Some 2 }
  pub end : line_end three_lines (whole_lines three_lines) 0 ≡ 3
