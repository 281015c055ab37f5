-- Where the pieces of a logical line end, for a width and a tab width, as a value that a layout computes with.
use Rattle.std.specs.Prelude.{ℕ, zero, suc, ◌+◌, ◌-◌, ◌==◌, ◌||◌, nat_lt, nat_le, Bool, if◌then◌else◌, List, [], ◌∷◌, length, reverse, None, unwrap_or, slice_get, slice_index, slice_range}
use Rattle.std.specs.List.{filter, last_or, prefix_len}
use Rattle.std.specs.Option.{option_or}
use Rattle.cluster_core.specs.Boundaries.{clusters_in, ends_from}
use Rattle.cluster_core.specs.Columns.{columns_between}

-- the ends of the clusters of a line, as gaps
abbrev pub cluster_ends : List ℕ → List ℕ
cluster_ends line = ends_from 0 (clusters_in line)

-- a space or a tab
abbrev pub is_space_or_tab : ℕ → Bool
is_space_or_tab c = c == 32 || c == 9

-- these characters without a CR that stands first
abbrev pub past_return : List ℕ → List ℕ
past_return [] = []
past_return (c ∷ text) = if c == 13 then text else c ∷ text

-- what stands before the end of a line, where the characters are read from the back: an LF that stands first is left out, and then a CR
-- that stands first behind it
abbrev pub past_line_end : List ℕ → List ℕ
past_line_end [] = []
past_line_end (c ∷ text) = if c == 10 then past_return text else c ∷ text

-- how many characters stand before the blanks that come first, where they are read from the back
abbrev pub past_blanks : List ℕ → ℕ
past_blanks text = length text - prefix_len is_space_or_tab text

-- how many characters of a piece count: those before its line end, and then before its trailing spaces and tabs
abbrev pub shown_len : List ℕ → ℕ
shown_len piece = past_blanks (past_line_end (reverse piece))

-- the gap up to which the columns of a piece count
abbrev pub shown_end : List ℕ → ℕ → ℕ → ℕ
shown_end line start end = start + shown_len (slice_range line start end)

-- the columns of a piece, counted from its start
abbrev pub piece_columns : ℕ → List ℕ → ℕ → ℕ → ℕ
piece_columns tab line start end = columns_between tab line start (shown_end line start end)

-- the piece from `start` to `end` fits into the width
abbrev pub fits : ℕ → ℕ → List ℕ → ℕ → ℕ → Bool
fits width tab line start end = nat_le (piece_columns tab line start end) width

-- a line may be broken after these characters
abbrev pub is_breaking : ℕ → Bool
is_breaking c = is_space_or_tab c || c == 45

-- a candidate: the line's end, or a gap directly after a space, a tab or `-`
abbrev pub is_candidate : List ℕ → ℕ → Bool
is_candidate line end = end == length line || is_breaking (slice_index line (end - 1))

-- THE END OF THE PIECE that starts at a gap: of the clusters' ends past it the last candidate that fits, or else the last that fits,
-- or else the first
abbrev pub piece_end : ℕ → ℕ → List ℕ → ℕ → ℕ
piece_end width tab line start =
    let ahead = filter (λ end. nat_lt start end) (cluster_ends line) in
    let fitting = filter (fits width tab line start) ahead in
    unwrap_or (option_or (last_or None (filter (is_candidate line) fitting)) (last_or (slice_get ahead 0) fitting)) (length line)

-- the ends of the pieces from `start` on, at most so many
abbrev pub breaks_from : ℕ → ℕ → List ℕ → ℕ → ℕ → List ℕ
breaks_from width tab line start zero = []
breaks_from width tab line start (suc bound) =
    let end = piece_end width tab line start in
    if nat_lt start (length line) then end ∷ breaks_from width tab line end bound else []

-- THE BREAKS OF A LINE: the ends of its pieces. With width 0 it is one piece, and so is an empty line
abbrev pub breaks_of : ℕ → ℕ → List ℕ → List ℕ
breaks_of width tab line =
    if width == 0 || length line == 0 then length line ∷ [] else breaks_from width tab line 0 (length line)
