-- What a line of a script says.
use Rattle.std.specs.Prelude.{ℕ, ◌-◌, ◌==◌, slice_index, nat_lt, if◌then◌else◌, List, [], ◌∷◌, ◌++◌, length, take, drop, replicate, codes, Option, Some, None, option_map, option_and_then}
use Rattle.std.specs.Str.{bytes_eq}
use Rattle.case_scripts.specs.declared.said.Way.{Way}
use Rattle.case_scripts.specs.declared.said.Way.TheVariants.{Input, Output}
use Rattle.case_scripts.specs.declared.shelf.When.{When}
use Rattle.case_scripts.specs.declared.shelf.When.TheVariants.{Before, After, Gone}
use Rattle.case_lines.specs.Lines.{after_word, first_word}
use Rattle.case_lines.specs.Number.{number_of, positive_of}

-- of one end of the run: bytes that are given or taken, the number of a call that fails, or how many bytes a call moves at most
pub data Piece : Type 0 where
  bytes : (text : List ℕ) → Piece
  fails : (call : ℕ) → Piece
  at_most : (count : ℕ) → Piece

-- of a turn of a plugin: a line that it is given, one that it then gives back, and its end, after which the plugin may be done
pub data Mark : Type 0 where
  given : (text : List ℕ) → Mark
  gives : (text : List ℕ) → Mark
  ends : Mark
  done : Mark

-- what a line says: nothing, something of one end, the status that the run ends with, a call of the shelf that fails, the path of a file,
-- bytes of the file that was named last, or something of a turn of the plugin with this number
pub data Meaning : Type 0 where
  remark : Meaning
  side : (way : Way) (piece : Piece) → Meaning
  status : (code : ℕ) → Meaning
  shelf_fails : (call : ℕ) → Meaning
  file : (when : When) (path : List ℕ) → Meaning
  held : (text : List ℕ) → Meaning
  turn : (caller : ℕ) (mark : Mark) → Meaning

-- so many bytes `a`
abbrev pub filler : ℕ → Piece
filler count = bytes (replicate count 97)

-- what stands after the mark, where the line begins with it
abbrev pub after_mark : List ℕ → List ℕ → Option (List ℕ)
after_mark mark line = if bytes_eq (take (length mark) line) mark then Some (drop (length mark) line) else None

-- what the text says, where there is one, or else what is said without it
abbrev pub or_else : {A : Type 0} → Option (List ℕ) → (List ℕ → Option A) → Option A → Option A
or_else None meaning other = other
or_else (Some text) meaning other = meaning text

-- a status, which is below 256
abbrev pub small_status : ℕ → Option Meaning
small_status code = if nat_lt code 256 then Some (status code) else None

abbrev pub status_said : List ℕ → Option Meaning
status_said text = option_and_then small_status (number_of text)

-- of the calls of one end: the greatest piece that one moves, or which one fails
abbrev pub piece_said : List ℕ → Option Piece
piece_said text = or_else (after_mark (codes "piece ") text) (λ count. option_map at_most (positive_of count)) (option_map fails (positive_of text))

-- of the calls of the source, of those of the sink, or of those of the shelf
abbrev pub call_said : List ℕ → Option Meaning
call_said text =
    or_else (after_mark (codes "read ") text) (λ call. option_map (side Input) (piece_said call))
    (or_else (after_mark (codes "write ") text) (λ call. option_map (side Output) (piece_said call))
    (or_else (after_mark (codes "shelf ") text) (λ call. option_map shelf_fails (positive_of call)) None))

-- of a turn, by the mark and what stands after it; behind an end stands nothing
abbrev pub mark_said : ℕ → List ℕ → Option Mark
mark_said mark text =
    if mark == 60 then Some (given text) else (
    if mark == 62 then Some (gives text) else (
    if mark == 46 then (if length text == 0 then Some ends else None) else (
    if mark == 33 then (if length text == 0 then Some done else None) else None)))

-- of a turn: the number of a plugin, and the mark right behind it
abbrev pub word_said : List ℕ → List ℕ → Option Meaning
word_said word text =
    option_and_then (λ caller. option_map (turn caller) (mark_said (slice_index word (length word - 1)) text)) (number_of (take (length word - 1) word))

abbrev pub turn_said : List ℕ → Option Meaning
turn_said line = word_said (first_word line) (after_word line)

-- of a file
abbrev pub file_said : List ℕ → Option Meaning
file_said line =
    or_else (after_mark (codes "@ ") line) (λ path. Some (file Before path))
    (or_else (after_mark (codes "@= ") line) (λ path. Some (file After path))
    (or_else (after_mark (codes "@- ") line) (λ path. Some (file Gone path))
    (or_else (after_mark (codes "@> ") line) (λ text. Some (held (text ++ 10 ∷ [])))
    (or_else (after_mark (codes "@| ") line) (λ text. Some (held text)) (turn_said line)))))

-- WHAT A LINE SAYS, without its LF; `None` is a bad line
abbrev pub said_of : List ℕ → Option Meaning
said_of line =
    or_else (after_mark (codes "> ") line) (λ text. Some (side Input (bytes (text ++ 10 ∷ []))))
    (or_else (after_mark (codes ">| ") line) (λ text. Some (side Input (bytes text)))
    (or_else (after_mark (codes ">* ") line) (λ count. option_map (λ n. side Input (filler n)) (number_of count))
    (or_else (after_mark (codes "< ") line) (λ text. Some (side Output (bytes (text ++ 10 ∷ []))))
    (or_else (after_mark (codes "<| ") line) (λ text. Some (side Output (bytes text)))
    (or_else (after_mark (codes "= ") line) status_said
    (or_else (after_mark (codes "! ") line) call_said
    (or_else (after_mark (codes "#") line) (λ text. Some remark) (file_said line))))))))
