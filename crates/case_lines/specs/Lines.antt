-- Lines, and the words of a line.
use Rattle.std.specs.Prelude.{ℕ, ◌+◌, ◌-◌, ◌==◌, if◌then◌else◌, List, length, take, drop, slice_index}
use Rattle.std.specs.List.{position_or_len}

-- the first line of the bytes with its LF, where it has one, and what stands after it
abbrev pub first_line : List ℕ → List ℕ
first_line bytes = take (position_or_len (λ b. b == 10) bytes + 1) bytes

abbrev pub after_line : List ℕ → List ℕ
after_line bytes = drop (position_or_len (λ b. b == 10) bytes + 1) bytes

-- a line without its LF
abbrev pub content_of : List ℕ → List ℕ
content_of line = if slice_index line (length line - 1) == 10 then take (length line - 1) line else line

-- the bytes before the first space, and what stands after it
abbrev pub first_word : List ℕ → List ℕ
first_word line = take (position_or_len (λ b. b == 32) line) line

abbrev pub after_word : List ℕ → List ℕ
after_word line = drop (position_or_len (λ b. b == 32) line + 1) line
