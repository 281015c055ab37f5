-- The pieces of a text as cuts: a cut is how long a piece is, and whether it is the first of its logical line. It says nothing of what
-- stands before it, so that the cuts of untouched lines stay as they are.
use Rattle.std.specs.Prelude.{ℕ, ◌+◌, ◌-◌, Bool, true, false, if◌then◌else◌, ◌==◌, List, [], ◌∷◌, ◌++◌, Some, None, cond}
use Rattle.std.specs.List.{flat_map}
use Rattle.plain_text.specs.Lines.{logical_lines}
use Rattle.plain_screen.specs.declared.piece.Piece.{Piece}
use Rattle.line_break.specs.Breaks.{breaks_of}
use Rattle.line_index.specs.declared.cut.Cut.{Cut}

-- the cuts of a line from one of its gaps on, each up to the next of these ends
abbrev pub cuts_from : Bool → ℕ → List ℕ → List Cut
cuts_from first from [] = []
cuts_from first from (end ∷ ends) = record { len = end - from; first = first } ∷ cuts_from false end ends

-- the cuts of a logical line, and of a text
abbrev pub cuts_of_line : ℕ → ℕ → List ℕ → List Cut
cuts_of_line width tab line = cuts_from true 0 (breaks_of width tab line)

abbrev pub cuts_of_lines : ℕ → ℕ → List (List ℕ) → List Cut
cuts_of_lines width tab lines = flat_map (cuts_of_line width tab) lines

abbrev pub cuts_of : ℕ → ℕ → List ℕ → List Cut
cuts_of width tab text = cuts_of_lines width tab (logical_lines text)

-- THE PIECES THAT CUTS SAY, where the first one starts at this gap, and the next logical line has this number
abbrev pub pieces_at : ℕ → ℕ → List Cut → List Piece
pieces_at number start [] = []
pieces_at number start (cut ∷ cuts) =
    record { start = start; end = start + cut.len; ln = if cut.first then Some number else None } ∷
    pieces_at (number + cond cut.first 1 0) (start + cut.len) cuts

-- the logical lines of a text that an LF ended, and what stands after the last LF
abbrev pub onto_some : ℕ → List (List ℕ) → List (List ℕ)
onto_some c [] = []
onto_some c (line ∷ lines) = (c ∷ line) ∷ lines

abbrev pub full_lines : List ℕ → List (List ℕ)
full_lines [] = []
full_lines (c ∷ text) = if c == 10 then (c ∷ []) ∷ full_lines text else onto_some c (full_lines text)

abbrev pub onto_front : List ℕ → List (List ℕ) → List (List ℕ)
onto_front front [] = front ∷ []
onto_front front (line ∷ lines) = (front ++ line) ∷ lines

-- what stands after the last LF, of a text with one character more in front
abbrev pub onto_open : ℕ → List (List ℕ) → List ℕ → List ℕ
onto_open c [] last = c ∷ last
onto_open c (line ∷ lines) last = last

abbrev pub open_line : List ℕ → List ℕ
open_line [] = []
open_line (c ∷ text) = if c == 10 then open_line text else onto_open c (full_lines text) (open_line text)

-- how many of the cuts are the first of a logical line, and how many characters they have
abbrev pub firsts : List Cut → ℕ
firsts [] = 0
firsts (cut ∷ cuts) = cond cut.first 1 0 + firsts cuts

abbrev pub span : List Cut → ℕ
span [] = 0
span (cut ∷ cuts) = cut.len + span cuts
