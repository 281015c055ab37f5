-- A text is a list of characters.
use Rattle.std.specs.Prelude.{ℕ, ◌+◌, ◌-◌, nat_le, ◌||◌, Bool, if◌then◌else◌, nat_lt, ◌==◌, List, [], ◌∷◌, take, Option, Some, None, unwrap_or, is_some}
use Rattle.std.specs.Char.{len_utf8}

-- how many bytes the text takes in UTF-8
abbrev pub byte_len : List ℕ → ℕ
byte_len [] = 0
byte_len (c ∷ text) = len_utf8 c + byte_len text

-- the place of a gap: how many bytes stand left of it
abbrev pub place_of : List ℕ → ℕ → ℕ
place_of text gap = byte_len (take gap text)

-- the gap whose place is this byte offset, counted from `gap` on, if there is one
abbrev pub gap_from : ℕ → List ℕ → ℕ → Option ℕ
gap_from gap [] at = if at == 0 then Some gap else None
gap_from gap (c ∷ text) at =
    if at == 0 then Some gap else (if nat_lt at (len_utf8 c) then None else gap_from (gap + 1) text (at - len_utf8 c))

-- the gap whose place is this byte offset, if the offset is a place
abbrev pub gap_at : List ℕ → ℕ → Option ℕ
gap_at text at = gap_from 0 text at

-- the gap whose place is this byte offset, which is a place
abbrev pub gap_of : List ℕ → ℕ → ℕ
gap_of text at = unwrap_or (gap_at text at) 0

-- whether the byte offset is a place: the length of a prefix of the text
abbrev pub is_place : List ℕ → ℕ → Bool
is_place text at = is_some (gap_at text at)

-- whether a character starts with this byte, and does not go on with it
abbrev pub starts_character : ℕ → Bool
starts_character byte = nat_lt byte 128 || nat_le 192 byte
