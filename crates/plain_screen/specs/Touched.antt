-- What an entry touches: the lines of a layout that may be others than before, and which old line each other one was.
use Rattle.std.specs.Prelude.{◌≡◌, ℕ, ◌+◌, ◌-◌, ◌≤◌, Bool, true, false, ◌==◌, if◌then◌else◌, nat_lt, List, [], ◌∷◌, length, map, take, reverse, Option, Some, None, is_some, slice_get}
use Rattle.std.specs.List.{common_prefix_len, enumerate_from, flat_map}
use Rattle.std.specs.Str.{bytes_eq}
use Rattle.std.specs.Cmp.Lexicographic.{pointwise}
use Rattle.plain_text.specs.declared.run.Run.{Run}
use Rattle.plain_screen.specs.declared.screen.Line.{Line}
use Rattle.plain_screen.specs.Screen.{Screen, numbered, restyled}
use Rattle.plain_screen.specs.Plan.{restyle_of}
use Rattle.plain_screen.specs.SameLayout.{is_same_line}
use Rattle.plain_screen.specs.View.{logical_line_of}

-- how many items two lists have in common at their beginnings
abbrev pub common_len : List ℕ → List ℕ → ℕ
common_len before after = common_prefix_len (λ a b. a == b) before after

-- THE LOGICAL LINES TOUCHED BY TEXT, by index, where the characters shown before and after are given by numbers of their own, and `text`
-- is the text after: from the line of the first place where the lists differ to that of the last one; none where they are equal
abbrev pub touched_by_text : List ℕ → List ℕ → List ℕ → Run
touched_by_text before after text =
    if bytes_eq before after then record { start = 0; end = 0 }
    else record {
      start = (logical_line_of text (common_len before after)).index;
      end = (logical_line_of text (length text - common_len (reverse before) (reverse after))).index + 1;
    }

-- THE COUNTERPART of a logical line, where there were `old` logical lines and are `new`: left of those that are touched by text the line
-- of the same index, right of them the one that counts equally from the end
abbrev pub counterpart : Run → ℕ → ℕ → ℕ → Option ℕ
counterpart touched old new index =
    if nat_lt index touched.start then Some index
    else if nat_lt index touched.end then None
    else Some (old - (new - index))

-- two lines are the same but for their numbers: numbered alike they are the same
abbrev pub is_same_but_number : Line → Line → Bool
is_same_but_number line other = is_same_line (numbered line.ln 0 line) (numbered other.ln 0 other)

-- two lines have one text, and both a number or none: with the same carets and styles they are the same but for their numbers
abbrev pub is_same_text : Line → Line → Bool
is_same_text line other = is_same_but_number (restyled (restyle_of other) line) other

-- the lines of a layout by logical lines: each begins with a line that has a number
abbrev pub begins_logical : List Line → Bool
begins_logical [] = true
begins_logical (line ∷ lines) = is_some line.ln

abbrev pub onto_logical : Line → List (List Line) → List (List Line)
onto_logical line [] = (line ∷ []) ∷ []
onto_logical line (first ∷ others) = if begins_logical first then (line ∷ []) ∷ first ∷ others else (line ∷ first) ∷ others

abbrev pub by_logical_lines : List Line → List (List Line)
by_logical_lines [] = []
by_logical_lines (line ∷ lines) = onto_logical line (by_logical_lines lines)

-- all lines of some logical lines, and how many stand before the one with an index
abbrev pub lines_in : List (List Line) → List Line
lines_in groups = flat_map (λ lines. lines) groups

abbrev pub first_of : List (List Line) → ℕ → ℕ
first_of groups index = length (lines_in (take index groups))

-- the lines of a logical line are the same as those of another one, by a test
abbrev pub are_alike : (Line → Line → Bool) → Option (List Line) → List Line → Bool
are_alike test None lines = false
are_alike test (Some before) lines = pointwise test before lines

-- the partners of the lines of one logical line: those of its counterpart, one after the other, and whether it is not touched, which is
-- so where the counterpart has as many lines and each is the same but for its number
abbrev pub partners_in : List (List Line) → Option ℕ → List Line → List (Option (ℕ × Bool))
partners_in before None lines = map (λ line. None) lines
partners_in before (Some index) lines =
    map (λ (old, line). Some (old, are_alike is_same_but_number (slice_get before index) lines)) (enumerate_from (first_of before index) lines)

-- THE PARTNERS of the lines of a layout, where these logical lines are touched by text: a line's partner is the same piece of the
-- counterpart of its logical line, and the lines of logical lines that are touched by text have none. At an opening, and after a change of
-- the width of tabs or lines, all of them count as touched by text
abbrev pub partners_of : Run → List Line → List Line → List (Option (ℕ × Bool))
partners_of touched before after =
    flat_map (λ (index, lines). partners_in (by_logical_lines before)
    (counterpart touched (length (by_logical_lines before)) (length (by_logical_lines after)) index) lines)
    (enumerate_from 0 (by_logical_lines after))

-- NO OTHER LOGICAL LINES ARE TOUCHED BY TEXT: right of these stand no more than there were, and of each other one the counterpart has as
-- many lines, and each has the text of the same piece
pub record TouchesNoOthers (touched : Run) (before after : List Line) : Type 0 where
  pub room : touched.start + length (by_logical_lines after) ≤ length (by_logical_lines before) + touched.end
  pub texts : (index other : ℕ) (lines : List Line) → slice_get (by_logical_lines after) index ≡ Some lines →
      counterpart touched (length (by_logical_lines before)) (length (by_logical_lines after)) index ≡ Some other →
      are_alike is_same_text (slice_get (by_logical_lines before) other) lines ≡ true

-- the partner, where it is valid on the screen
abbrev pub if_valid : Option (Option Line) → Option (ℕ × Bool) → Option (ℕ × Bool)
if_valid (Some (Some line)) partner = partner
if_valid (Some None) partner = None
if_valid None partner = None

abbrev pub valid_partner : Screen → Option (ℕ × Bool) → Option (ℕ × Bool)
valid_partner screen None = None
valid_partner screen (Some (old, same)) = if_valid (slice_get screen old) (Some (old, same))

-- of partners those that are valid on the screen
abbrev pub valid_partners : Screen → List (Option (ℕ × Bool)) → List (Option (ℕ × Bool))
valid_partners screen partners = map (valid_partner screen) partners
