-- The clusters of a logical line, and the boundaries between them.
use Rattle.std.specs.Prelude.{ℕ, ◌+◌, ◌<◌, ◌≤◌, nat_lt, true, List, [], ◌∷◌, length, map, reverse, Option, encode_utf8_all}
use Rattle.std.specs.List.{Contains, find, flat_map}
use Rattle.std.specs.Str.{chars}
use Rattle.plain_text.specs.Lines.{logical_lines}
use Rattle.unicode_segmentation.specs.Grapheme.{graphemes}

-- the extended grapheme clusters of a line, each as its bytes
abbrev pub clusters_of : List ℕ → List (List ℕ)
clusters_of line = graphemes true line

-- the offsets at which pieces end that follow each other from `at` on
abbrev pub ends_from : ℕ → List (List ℕ) → List ℕ
ends_from at [] = []
ends_from at (piece ∷ pieces) = (at + length piece) ∷ ends_from (at + length piece) pieces

-- the ends of the clusters of a line
abbrev pub ends_of : List ℕ → List ℕ
ends_of line = ends_from 0 (clusters_of line)

-- the clusters of a line, both as characters
abbrev pub clusters_in : List ℕ → List (List ℕ)
clusters_in line = map chars (clusters_of (encode_utf8_all line))

-- THE BOUNDARIES OF A TEXT, as gaps: its start, and the ends of the clusters of its logical lines
abbrev pub text_boundaries : List ℕ → List ℕ
text_boundaries text = 0 ∷ ends_from 0 (flat_map clusters_in (logical_lines text))

-- where a caret can stand: at the line's start, and at the end of each cluster
abbrev pub boundaries_of : List ℕ → List ℕ
boundaries_of line = 0 ∷ ends_of line

-- the first boundary above an offset, and the last one below it
abbrev pub next_of : List ℕ → ℕ → Option ℕ
next_of line at = find (λ boundary. nat_lt at boundary) (boundaries_of line)

abbrev pub prev_of : List ℕ → ℕ → Option ℕ
prev_of line at = find (λ boundary. nat_lt boundary at) (reverse (boundaries_of line))

-- the offset is one of the boundaries
abbrev pub IsBoundary : List ℕ → ℕ → Type 0
IsBoundary line at = Contains (boundaries_of line) at

-- the least boundary above an offset
pub record IsLeastAbove (line : List ℕ) (at next : ℕ) : Type 0 where
  pub boundary : IsBoundary line next
  pub above : at < next
  pub least : (other : ℕ) → IsBoundary line other → at < other → next ≤ other

-- the greatest boundary below an offset
pub record IsGreatestBelow (line : List ℕ) (at prev : ℕ) : Type 0 where
  pub boundary : IsBoundary line prev
  pub below : prev < at
  pub greatest : (other : ℕ) → IsBoundary line other → other < at → other ≤ prev

-- no boundary is above an offset
abbrev pub HasNoneAbove : List ℕ → ℕ → Type 0
HasNoneAbove line at = (other : ℕ) → IsBoundary line other → other ≤ at

-- no boundary is below an offset
abbrev pub HasNoneBelow : List ℕ → ℕ → Type 0
HasNoneBelow line at = (other : ℕ) → IsBoundary line other → at ≤ other
