-- Worked rows of views, of touched lines and of plans.
use Rattle.std.specs.Prelude.{◌≡◌, ℕ, pos, Bool, true, false, List, [], ◌∷◌, map, Option, Some, None, replicate, ◌++◌, codes}
use Rattle.std.specs.List.{range_with_len}
use Rattle.plain_text.specs.declared.run.Run.{Run}
use Rattle.plain_screen.specs.declared.screen.Line.{Line}
use Rattle.plain_screen.specs.declared.screen.Restyle.{Restyle}
use Rattle.plain_screen.specs.declared.screen.Op.{Op}
use Rattle.plain_screen.specs.declared.screen.Op.TheVariants.{Copy, Skip, Invalidate, Ins, Update}
use Rattle.plain_screen.specs.Screen.{Screen, screen_after}
use Rattle.plain_screen.specs.Plan.{update_plan}
use Rattle.plain_screen.specs.Touched.{touched_by_text, partners_of, valid_partners}
use Rattle.plain_screen.specs.View.{pieces_by, whole_lines, layout_line_of, logical_line_of}
use Rattle.plain_laws.specs.Rows.{numbered_line}

-- a text that ends with LF has an empty last line; and `aa bb`, cut at 3
pub record Pieces : Type 0 where
  pub feed : whole_lines (97 ∷ 10 ∷ []) ≡
      record { start = 0; end = 2; ln = Some 1 } ∷ record { start = 2; end = 2; ln = Some 2 } ∷ []
  pub nothing : whole_lines [] ≡ record { start = 0; end = 0; ln = Some 1 } ∷ []
  pub cut : pieces_by (λ line. 3 ∷ 5 ∷ []) (codes "aa bb") ≡
      record { start = 0; end = 3; ln = Some 1 } ∷ record { start = 3; end = 5; ln = None } ∷ []

-- the gap at a cut is of the later piece, and the gap after LF of the line after it
pub record LinesOfGaps : Type 0 where
  pub at_cut : layout_line_of (pieces_by (λ line. 3 ∷ 5 ∷ []) (codes "aa bb")) 3 ≡ 1
  pub before_cut : layout_line_of (pieces_by (λ line. 3 ∷ 5 ∷ []) (codes "aa bb")) 2 ≡ 0
  pub end : layout_line_of (whole_lines (97 ∷ 10 ∷ [])) 2 ≡ 1
  pub logical : logical_line_of (97 ∷ 10 ∷ 98 ∷ []) 2 ≡ record { index = 1; start = 2; text = 98 ∷ [] }
  pub at_feed : logical_line_of (97 ∷ 10 ∷ 98 ∷ []) 1 ≡ record { index = 0; start = 0; text = 97 ∷ 10 ∷ [] }

-- a line of a later piece
abbrev pub later_line : List ℕ → Line
later_line text = record { text = text; ln = None; cursor = []; styles = [] }

-- the lines `a`, `b` in two pieces, and `c`; and the same with `x` as a new line before `b`
abbrev pub lines_before : List Line
lines_before = numbered_line 1 (codes "a") [] ∷ numbered_line 2 (codes "b") [] ∷ later_line (codes "B") ∷ numbered_line 3 (codes "c") [] ∷ []

abbrev pub lines_after : List Line
lines_after =
    numbered_line 1 (codes "a") [] ∷ numbered_line 2 (codes "x") [] ∷ numbered_line 3 (codes "b") [] ∷ later_line (codes "B") ∷
    numbered_line 4 (codes "c") [] ∷ []

-- characters 1 to 4 and two new ones after the second: of the text `a`, LF, `x`, LF, `b`, `c` the lines at index 1 and 2 are touched;
-- the partners of the other lines, also where the carets of one changed, and where one is not valid on the screen
pub record TouchedLines : Type 0 where
  pub put_in : touched_by_text (1 ∷ 2 ∷ 3 ∷ 4 ∷ []) (1 ∷ 2 ∷ 5 ∷ 6 ∷ 3 ∷ 4 ∷ []) (97 ∷ 10 ∷ 120 ∷ 10 ∷ 98 ∷ 99 ∷ []) ≡
      record { start = 1; end = 3 }
  pub same : touched_by_text (1 ∷ 2 ∷ []) (1 ∷ 2 ∷ []) (codes "ab") ≡ record { start = 0; end = 0 }
  pub partners : partners_of (record { start = 1; end = 2 }) lines_before lines_after ≡
      Some (0, true) ∷ None ∷ Some (1, true) ∷ Some (2, true) ∷ Some (3, true) ∷ []
  pub carets : partners_of (record { start = 0; end = 0 }) lines_before
      (numbered_line 1 (codes "a") (0 ∷ []) ∷ numbered_line 2 (codes "b") [] ∷ later_line (codes "B") ∷ numbered_line 3 (codes "c") [] ∷ []) ≡
      Some (0, false) ∷ Some (1, true) ∷ Some (2, true) ∷ Some (3, true) ∷ []
  pub later : partners_of (record { start = 0; end = 0 }) lines_before
      (numbered_line 1 (codes "a") [] ∷ numbered_line 2 (codes "b") [] ∷ record { text = codes "B"; ln = None; cursor = 1 ∷ []; styles = [] } ∷
      numbered_line 3 (codes "c") [] ∷ []) ≡ Some (0, true) ∷ Some (1, false) ∷ Some (2, false) ∷ Some (3, true) ∷ []
  pub all : partners_of (record { start = 0; end = 4 }) lines_before lines_after ≡ None ∷ None ∷ None ∷ None ∷ None ∷ []
  pub valid : valid_partners (Some (numbered_line 1 (codes "a") []) ∷ None ∷ []) (Some (0, false) ∷ Some (1, true) ∷ Some (2, true) ∷ None ∷ []) ≡
      Some (0, false) ∷ None ∷ None ∷ None ∷ []

-- so many lines, of which the last is given
abbrev pub many_lines : ℕ → Line → List Line
many_lines n line = replicate n (later_line []) ++ line ∷ []

-- a line beside the window is kept up to the margin of 1,000 lines, and farther off only where it is requested; kept lines are numbered on,
-- also from a piece without a number; and a kept run ends where partners are not consecutive
pub record PlansWithPartners : Type 0 where
  pub near : update_plan (record { start = 0; end = 1 }) (record { start = 0; end = 0 }) (many_lines 1000 (later_line (codes "a"))) (replicate 1000 None ++ Some (7, true) ∷ []) ≡
      Ins (later_line [] ∷ []) ∷ Invalidate 999 ∷ Skip 7 ∷ Copy 1 None ∷ []
  pub far : update_plan (record { start = 0; end = 1 }) (record { start = 0; end = 0 }) (many_lines 1001 (later_line (codes "a"))) (replicate 1001 None ++ Some (7, true) ∷ []) ≡
      Ins (later_line [] ∷ []) ∷ Invalidate 1001 ∷ []
  pub requested : update_plan (record { start = 0; end = 1 }) (record { start = 1001; end = 1002 }) (many_lines 1001 (later_line (codes "a"))) (replicate 1001 None ++ Some (7, true) ∷ []) ≡
      Ins (later_line [] ∷ []) ∷ Invalidate 1000 ∷ Skip 7 ∷ Copy 1 None ∷ []
  pub asked_anew : update_plan (record { start = 0; end = 0 }) (record { start = 1; end = 2 }) lines_before [] ≡
      Invalidate 1 ∷ Ins (numbered_line 2 (codes "b") [] ∷ []) ∷ Invalidate 2 ∷ []
  pub numbered : update_plan (record { start = 0; end = 9 }) (record { start = 0; end = 0 }) lines_after
      (Some (0, true) ∷ None ∷ Some (1, true) ∷ Some (2, true) ∷ Some (4, true) ∷ []) ≡
      Copy 1 (Some 1) ∷ Ins (numbered_line 2 (codes "x") [] ∷ []) ∷ Copy 2 (Some 3) ∷ Skip 1 ∷ Copy 1 (Some 4) ∷ []
  pub later_first : update_plan (record { start = 0; end = 9 }) (record { start = 0; end = 0 })
      (later_line (codes "B") ∷ numbered_line 3 (codes "c") [] ∷ []) (Some (2, true) ∷ Some (3, true) ∷ []) ≡ Skip 2 ∷ Copy 2 (Some 3) ∷ []

-- carets and a style
abbrev pub restyle_with : List ℕ → ℕ → Restyle
restyle_with cursor id = record { cursor = cursor; styles = record { start = pos 0; len = 1; id = id } ∷ [] }

abbrev pub styled_line : Option ℕ → List ℕ → List ℕ → ℕ → Line
styled_line number text cursor id = record { text = text; ln = number; cursor = cursor; styles = record { start = pos 0; len = 1; id = id } ∷ [] }

-- three valid lines, of which the first has a caret and a style, and the second has no number
abbrev pub styled_screen : Screen
styled_screen = Some (styled_line (Some 1) (codes "a") (0 ∷ []) 2) ∷ Some (later_line (codes "B")) ∷ Some (numbered_line 3 (codes "c") []) ∷ []

-- an update keeps texts, numbers the lines that have a number, and gives carets and styles; a line that is not valid stays so; and an update
-- past the old lines is not defined
pub record RestyledScreens : Type 0 where
  pub two : screen_after styled_screen (Update (Some 7) (restyle_with [] 3 ∷ restyle_with (1 ∷ []) 4 ∷ []) ∷ []) ≡
      Some (Some (styled_line (Some 7) (codes "a") [] 3) ∷ Some (styled_line None (codes "B") (1 ∷ []) 4) ∷ [])
  pub numbered : screen_after styled_screen
      (Update (Some 7) (restyle_with [] 3 ∷ restyle_with [] 4 ∷ restyle_with (1 ∷ []) 5 ∷ []) ∷ []) ≡
      Some (Some (styled_line (Some 7) (codes "a") [] 3) ∷ Some (styled_line None (codes "B") [] 4) ∷ Some (styled_line (Some 8) (codes "c") (1 ∷ []) 5) ∷ [])
  pub as_before : screen_after styled_screen (Update None (restyle_with [] 3 ∷ []) ∷ Copy 2 None ∷ []) ≡
      Some (Some (styled_line (Some 1) (codes "a") [] 3) ∷ Some (later_line (codes "B")) ∷ Some (numbered_line 3 (codes "c") []) ∷ [])
  pub not_valid : screen_after (None ∷ Some (numbered_line 2 (codes "b") []) ∷ []) (Update (Some 7) (restyle_with [] 3 ∷ restyle_with [] 4 ∷ []) ∷ []) ≡
      Some (None ∷ Some (styled_line (Some 7) (codes "b") [] 4) ∷ [])
  pub past : screen_after styled_screen (Skip 2 ∷ Update (Some 7) (restyle_with [] 3 ∷ restyle_with [] 4 ∷ []) ∷ []) ≡ None
  pub nothing : screen_after styled_screen (Update (Some 7) [] ∷ []) ≡ Some []

-- so many lines of `x` and LF, numbered from this one on
abbrev pub x_lines : ℕ → ℕ → List Line
x_lines number count = map (λ at. numbered_line at (120 ∷ 10 ∷ []) []) (range_with_len number count)

-- 1,999 lines of `x` and LF, and the empty one after them, the fifth of which is this one
abbrev pub file_lines : Line → List Line
file_lines fifth = x_lines 1 4 ++ (fifth ∷ (x_lines 6 1994 ++ numbered_line 2000 [] [] ∷ []))

-- partners of the first ten of them, the fifth and all later ones but for these given: the others are not valid
abbrev pub first_partners : Bool → Option (ℕ × Bool) → List (Option (ℕ × Bool))
first_partners first fifth =
    Some (0, first) ∷ Some (1, true) ∷ Some (2, true) ∷ Some (3, true) ∷ fifth ∷ Some (5, true) ∷ Some (6, true) ∷ Some (7, true) ∷
    Some (8, true) ∷ Some (9, true) ∷ replicate 1990 None

abbrev pub first_window : Run
first_window = record { start = 0; end = 10 }

abbrev pub no_lines : Run
no_lines = record { start = 0; end = 0 }

-- in that file, of which the first ten lines are valid, the caret goes from the first line to the fifth; there `y` is inserted; and the lines
-- with the index 1500 and 1501 are requested
pub record PlansOfAFile : Type 0 where
  pub clicked : update_plan first_window no_lines (file_lines (numbered_line 5 (120 ∷ 10 ∷ []) (0 ∷ []))) (first_partners false (Some (4, false))) ≡
      Update (Some 1) (record { cursor = []; styles = [] } ∷ []) ∷ Copy 3 (Some 2) ∷ Update (Some 5) (record { cursor = 0 ∷ []; styles = [] } ∷ []) ∷
      Copy 5 (Some 6) ∷ Invalidate 1990 ∷ []
  pub inserted : update_plan first_window no_lines (file_lines (numbered_line 5 (121 ∷ 120 ∷ 10 ∷ []) (1 ∷ []))) (first_partners true None) ≡
      Copy 4 (Some 1) ∷ Ins (numbered_line 5 (121 ∷ 120 ∷ 10 ∷ []) (1 ∷ []) ∷ []) ∷ Skip 1 ∷ Copy 5 (Some 6) ∷ Invalidate 1990 ∷ []
  pub requested : update_plan first_window (record { start = 1500; end = 1502 }) (file_lines (numbered_line 5 (120 ∷ 10 ∷ []) []))
      (first_partners true (Some (4, true))) ≡
      Copy 10 (Some 1) ∷ Invalidate 1490 ∷ Ins (numbered_line 1501 (120 ∷ 10 ∷ []) [] ∷ numbered_line 1502 (120 ∷ 10 ∷ []) [] ∷ []) ∷ Invalidate 498 ∷ []

-- the plan by which a screen that shows these lines comes to show others, where no text was touched and all of them are in the window
abbrev pub plan_between : List Line → List Line → List Op
plan_between before after = update_plan first_window no_lines after (valid_partners (map Some before) (partners_of no_lines before after))

-- a piece of a line in three pieces
abbrev pub third_piece : List ℕ → List ℕ → Line
third_piece text cursor = record { text = text; ln = None; cursor = cursor; styles = [] }

-- where a caret moves: in a line in three pieces; and from the first line to the second of three, as a click does. A run of restyled lines
-- ends where their partners are not consecutive; and a touched line beyond the window is left, while an untouched one stays
pub record RestyledLines : Type 0 where
  pub in_pieces : plan_between (numbered_line 1 (codes "abc") (0 ∷ []) ∷ third_piece (codes "def") [] ∷ third_piece (codes "g") [] ∷ [])
      (numbered_line 1 (codes "abc") [] ∷ third_piece (codes "def") [] ∷ third_piece (codes "g") (1 ∷ []) ∷ []) ≡
      Update (Some 1) (record { cursor = []; styles = [] } ∷ record { cursor = []; styles = [] } ∷ record { cursor = 1 ∷ []; styles = [] } ∷ []) ∷ []
  pub clicked : plan_between
      (numbered_line 1 (codes "hello") (5 ∷ []) ∷ numbered_line 2 (codes "world") [] ∷ numbered_line 3 [] [] ∷ [])
      (numbered_line 1 (codes "hello") [] ∷ numbered_line 2 (codes "world") (5 ∷ []) ∷ numbered_line 3 [] [] ∷ []) ≡
      Update (Some 1) (record { cursor = []; styles = [] } ∷ record { cursor = 5 ∷ []; styles = [] } ∷ []) ∷ Copy 1 (Some 3) ∷ []
  pub passed_over : update_plan first_window no_lines (numbered_line 1 (codes "a") (0 ∷ []) ∷ numbered_line 2 (codes "c") (0 ∷ []) ∷ [])
      (Some (0, false) ∷ Some (2, false) ∷ []) ≡
      Update (Some 1) (record { cursor = 0 ∷ []; styles = [] } ∷ []) ∷ Skip 1 ∷ Update (Some 2) (record { cursor = 0 ∷ []; styles = [] } ∷ []) ∷ []
  pub beyond : update_plan (record { start = 0; end = 1 }) no_lines
      (numbered_line 1 (codes "a") [] ∷ numbered_line 2 (codes "b") (0 ∷ []) ∷ numbered_line 3 (codes "c") [] ∷ [])
      (Some (0, true) ∷ Some (1, false) ∷ Some (2, true) ∷ []) ≡
      Copy 1 (Some 1) ∷ Invalidate 1 ∷ Skip 1 ∷ Copy 1 (Some 3) ∷ []
  pub asked_for : update_plan (record { start = 0; end = 1 }) (record { start = 1; end = 2 })
      (numbered_line 1 (codes "a") [] ∷ numbered_line 2 (codes "b") (0 ∷ []) ∷ []) (Some (0, true) ∷ Some (1, false) ∷ []) ≡
      Copy 1 (Some 1) ∷ Update (Some 2) (record { cursor = 0 ∷ []; styles = [] } ∷ []) ∷ []
