-- A line of JSON: its bytes from a value, and its value from bytes.
use Rattle.std.specs.Prelude.{◌≡◌, ◌≢◌, ℕ, ◌-◌, ◌==◌, List, [], ◌∷◌, ◌++◌, length, take, slice_index, if◌then◌else◌, Option, Some, None, IsUtf8}
use Rattle.std.specs.List.{AllByRecursion}
use Rattle.std.specs.Str.{is_utf8}
use Rattle.serde_json.specs.Data.{Data}
use Rattle.serde_json.specs.Read.{read}
use Rattle.serde_json.specs.Written.{compact_text}

-- the byte that ends a line
abbrev pub line_feed : ℕ
line_feed = 10

-- no byte ends a line
abbrev pub HasNoLf : List ℕ → Type 0
HasNoLf bytes = AllByRecursion (λ b. b ≢ line_feed) bytes

-- the line without the LF at its end, where it has one
unfoldable pub without_lf : List ℕ → List ℕ
without_lf line = if slice_index line (length line - 1) == line_feed then take (length line - 1) line else line

-- the value that a text of JSON has, where it is one
unfoldable pub text_value : List ℕ → Option Data
text_value text = if is_utf8 text then read text else None

-- the value of a line, where it has a reading
unfoldable pub reading : List ℕ → Option Data
reading line = text_value (without_lf line)

-- the line of a value: its text with no blanks, members in the order of their names, and one LF
unfoldable pub line_of : Data → List ℕ
line_of d = compact_text d ++ line_feed ∷ []

-- the line is that of the value: one line of text, which reads as the value
pub record IsLineOf (d : Data) (line : List ℕ) : Type 0 where
  pub bytes : line ≡ line_of d
  pub one : HasNoLf (compact_text d)
  pub text : IsUtf8 line
  pub reads : reading line ≡ Some d
