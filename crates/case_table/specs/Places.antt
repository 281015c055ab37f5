-- Where the names of a text stand in it.
use Rattle.std.specs.Prelude.{◌≡◌, ℕ, ◌+◌, ◌-◌, ◌<◌, ◌≤◌, List, [], ◌∷◌, length, take, drop, slice_index_or}
use Rattle.std.specs.Str.{IsCharBoundary}
use Rattle.case_table.specs.Table.{pieces, names_of, piece_at, NamesRise}

-- where names stand that follow one another from this place on, each before one space
abbrev pub places_from : ℕ → List (List ℕ) → List (ℕ × ℕ)
places_from start [] = []
places_from start (name ∷ names) = (start, start + length name) ∷ places_from (start + length name + 1) names

-- where the names of a text stand in it
abbrev pub places_of : List ℕ → List (ℕ × ℕ)
places_of text = places_from 0 (names_of text)

-- the text between two places, where it may be cut, is this piece
pub record ShowsPiece (text : List ℕ) (from to : ℕ) (piece : List ℕ) : Type 0 where
  pub ordered : from ≤ to
  pub starts : IsCharBoundary text from
  pub ends : IsCharBoundary text to
  pub bytes : take (to - from) (drop from text) ≡ piece

-- each span below n shows the piece of its index
abbrev pub ShowsBelow : List ℕ → List (ℕ × ℕ) → ℕ → Type 0
ShowsBelow text spans n =
    (row : ℕ) → row < n → ShowsPiece text (slice_index_or spans row (0, 0)).0 (slice_index_or spans row (0, 0)).1 (piece_at (pieces text) row)

-- the text is a table of n names, and the spans show where they stand
pub record IsTable (n : ℕ) (text : List ℕ) (spans : List (ℕ × ℕ)) : Type 0 where
  pub count : length (names_of text) ≡ n
  pub rising : NamesRise (names_of text)
  pub shown : ShowsBelow text spans n
