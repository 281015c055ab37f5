-- A CHUNK of a text: what a plugin reads at once.
use Rattle.std.specs.Prelude.{ℕ, ◌-◌, ◌^◌, if◌then◌else◌, nat_le, List, [], ◌∷◌, drop}
use Rattle.std.specs.Char.{len_utf8}
use Rattle.plain_text.specs.Text.{gap_of}

-- the most bytes of a chunk
abbrev pub most_bytes : ℕ
most_bytes = 2 ^ 20

-- the longest beginning of the text that takes at most so many bytes
abbrev pub beginning : ℕ → List ℕ → List ℕ
beginning room [] = []
beginning room (c ∷ text) = if nat_le (len_utf8 c) room then c ∷ beginning (room - len_utf8 c) text else []

-- THE CHUNK from a place of the text: the longest text there that takes at most `max` bytes, and no more than a chunk may
abbrev pub chunk_at : List ℕ → ℕ → ℕ → List ℕ
chunk_at text start max = beginning (if nat_le max most_bytes then max else most_bytes) (drop (gap_of text start) text)
