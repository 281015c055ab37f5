-- Tables of names, as texts and as lists.
use Rattle.std.specs.Prelude.{◌≡◌, ℕ, ◌+◌, ◌-◌, ◌<◌, Bool, not, ◌&&◌, ◌||◌, ◌==◌, nat_lt, List, [], ◌∷◌, ◌++◌, length, take, slice_index_or, Option, position, if◌then◌else◌}
use Rattle.std.specs.List.{slice_split, flat_map, range_with_len}
use Rattle.std.specs.Ordering.{nat_cmp, is_lt}
use Rattle.std.specs.Cmp.Lexicographic.{slice_cmp}
use Rattle.std.specs.declared.cmp.Ordering.TheVariants.{Less}

-- the pieces of a text round its spaces: its names, and last what is left after the last space
abbrev pub pieces : List ℕ → List (List ℕ)
pieces text = slice_split (λ byte. byte == 32) text

-- the names of a text: the pieces before each space
abbrev pub names_of : List ℕ → List (List ℕ)
names_of text = take (length (pieces text) - 1) (pieces text)

-- the text of some names, each followed by one space
abbrev pub text_of_names : List (List ℕ) → List ℕ
text_of_names names = flat_map (λ name. name ++ 32 ∷ []) names

-- the piece at an index
abbrev pub piece_at : List (List ℕ) → ℕ → List ℕ
piece_at all index = slice_index_or all index []

-- each name is above the one before it, by their bytes
abbrev pub NamesRise : List (List ℕ) → Type 0
NamesRise names =
    (row : ℕ) → row + 1 < length names → slice_cmp nat_cmp (piece_at names row) (piece_at names (row + 1)) ≡ Less

-- a name stands at this index, above the one before it
abbrev pub is_good : List (List ℕ) → ℕ → Bool
is_good all index =
    nat_lt (index + 1) (length all)
    && (index == 0 || is_lt (slice_cmp nat_cmp (piece_at all (index - 1)) (piece_at all index)))

-- nothing is left after so many names
abbrev pub is_over : List (List ℕ) → ℕ → Bool
is_over all n = length all == n + 1 && length (piece_at all n) == 0

-- a table of n names goes on well here: a good name stands at an index below n, and nothing is left at n
abbrev pub is_right : ℕ → List (List ℕ) → ℕ → Bool
is_right n all index = if nat_lt index n then is_good all index else is_over all n

-- the first index at which a text is no table of n names, if there is one
abbrev pub bad_case : ℕ → List ℕ → Option ℕ
bad_case n text = position (λ index. not (is_right n (pieces text) index)) (range_with_len 0 (n + 1))
