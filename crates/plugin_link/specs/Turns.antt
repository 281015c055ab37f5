-- Turns of bytes: lines, and an empty line behind the lines of each turn.
use Rattle.std.specs.Prelude.{◌≢◌, ℕ, ◌==◌, if◌then◌else◌, List, [], ◌∷◌, ◌++◌, map}
use Rattle.std.specs.List.{AllByRecursion, flat_map}
use Rattle.std.specs.Str.{encode_utf8_all}
use Rattle.plain_text.specs.InputLines.{ended_lines, unended}

-- no byte is an LF
abbrev pub HasNoLf : List ℕ → Type 0
HasNoLf bytes = AllByRecursion (λ b. b ≢ 10) bytes

-- a line of a turn: it has a byte, and no LF
abbrev pub IsLine : List ℕ → Type 0
IsLine line = (line ≢ []) × HasNoLf line

-- lines, each with an LF behind it
abbrev pub lined : List (List ℕ) → List ℕ
lined lines = flat_map (λ line. line ++ 10 ∷ []) lines

-- A TURN as bytes: its lines, and one LF more
abbrev pub framed : List (List ℕ) → List ℕ
framed lines = lined lines ++ 10 ∷ []

-- texts as bytes
abbrev pub utf8_of : List (List ℕ) → List (List ℕ)
utf8_of texts = map encode_utf8_all texts

-- the bytes up to the first LF
abbrev pub before_lf : List ℕ → List ℕ
before_lf [] = []
before_lf (b ∷ bytes) = if b == 10 then [] else b ∷ before_lf bytes

-- the lines that LF ends among the bytes, without it: what stands after the last LF is no line
abbrev pub whole_lines : List ℕ → List (List ℕ)
whole_lines bytes = map before_lf (ended_lines [] bytes)

-- the turns among lines, each ended by an empty line, where `begun` are the first lines of the first turn
abbrev pub turns_of : List (List ℕ) → List (List ℕ) → List (List (List ℕ))
turns_of begun [] = []
turns_of begun ([] ∷ lines) = begun ∷ turns_of [] lines
turns_of begun ((b ∷ line) ∷ lines) = turns_of (begun ++ (b ∷ line) ∷ []) lines

-- the lines after the last empty one
abbrev pub open_of : List (List ℕ) → List (List ℕ) → List (List ℕ)
open_of begun [] = begun
open_of begun ([] ∷ lines) = open_of [] lines
open_of begun ((b ∷ line) ∷ lines) = open_of (begun ++ (b ∷ line) ∷ []) lines

-- THE TURNS of bytes
abbrev pub turns : List ℕ → List (List (List ℕ))
turns bytes = turns_of [] (whole_lines bytes)

-- the bytes after the last empty line
abbrev pub rest_of : List ℕ → List ℕ
rest_of bytes = lined (open_of [] (whole_lines bytes)) ++ unended [] bytes
