-- What the walk of private functions keeps: where a place stands, and how far a piece was looked through.
use Rattle.std.specs.Prelude.{◌≡◌, ℕ, ◌+◌, ◌<◌, Bool, true, false, if◌then◌else◌, List, [], ◌∷◌, ◌++◌, length, reverse, Option, None, unwrap_or, option_map, slice_get}
use Rattle.std.specs.Char.{is_control}
use Rattle.unicode_width.specs.Width.{str_width}
use Rattle.std.specs.List.{concat, filter, fold, last_or}
use Rattle.std.specs.Option.{ForSome, ForNone, IsSomeAnd, option_or}
use Rattle.cluster_core.specs.Boundaries.{clusters_in, ends_from}
use Rattle.cluster_core.specs.Columns.{column_after, columns_between}
use Rattle.cluster_core.specs.Walk.{ClusterAt, placed, walk_left, walk_tab}
use Rattle.cluster_core.specs.declared.walk.Walk.{Walk}
use Rattle.line_break.specs.Breaks.{is_breaking, is_candidate, past_return, past_blanks, shown_len, fits, piece_end}
use Rattle.line_break.specs.Test.{AreBreaksFrom}
use Rattle.line_break.specs.declared.tail.Tail.{Tail}
use Rattle.line_break.specs.declared.line.Place.{Place}
use Rattle.line_break.specs.declared.line.Look.{Look}

-- how many characters stand before the trailing blanks of a text
abbrev pub solid_len : List ℕ → ℕ
solid_len text = past_blanks (reverse text)

-- how many of its characters would be shown if an LF came next
abbrev pub ended_len : List ℕ → ℕ
ended_len text = past_blanks (past_return (reverse text))

-- a line may be broken after the first of these characters
abbrev pub breaks_first : List ℕ → Bool
breaks_first [] = false
breaks_first (c ∷ text) = is_breaking c

-- what a text's last characters mean to a piece that ends there
pub record IsTail (text : List ℕ) (tail : Tail) : Type 0 where
  pub len : tail.len ≡ length text
  pub solid : tail.solid ≡ solid_len text
  pub ended : tail.ended ≡ ended_len text
  pub shown : tail.shown ≡ shown_len text
  pub breaks : tail.breaks ≡ breaks_first (reverse text)

-- a walk stands at the end of some first clusters of the line
pub record StandsAt (tab : ℕ) (line : List ℕ) (place : Place) : Type 0 where
  pub front : List (List ℕ)
  pub back : List (List ℕ)
  pub column : ℕ
  pub parts : clusters_in line ≡ front ++ back
  pub gap : length (concat front) ≡ place.end
  pub left : walk_left place.rest ≡ placed tab place.end column back
  pub tab_width : walk_tab place.rest ≡ tab

-- the same, past the start of a piece
pub record IsAhead (tab : ℕ) (line : List ℕ) (start : ℕ) (place : Place) : Type 0 where
  pub stands : StandsAt tab line place
  pub past : start < place.end

-- what is kept of two places: the later one, which a walk has reached, where it is taken, or else the one before it
pub record IsLater (before : Option Place) (takes : Bool) (end : ℕ) (rest : Walk) (after : Option Place) : Type 0 where
  pub taken : takes ≡ true → IsSomeAnd after (λ place. (place.end ≡ end) × (walk_left place.rest ≡ walk_left rest) × (walk_tab place.rest ≡ walk_tab rest))
  pub kept : takes ≡ false → after ≡ before

-- the column after the first characters of a cluster that begins at `column`, where `whole` is that after all of it
abbrev pub inside_column : ℕ → ℕ → List ℕ → ℕ
inside_column column whole [] = whole
inside_column column whole (c ∷ text) = if is_control c then whole else column + str_width false (c ∷ text)

-- the end of a piece, where these are the last candidate so far and the last end so far, and these ends are yet to come
abbrev pub end_among : (ℕ → Bool) → (ℕ → Bool) → ℕ → Option ℕ → Option ℕ → List ℕ → ℕ
end_among is_fit may_end len candidate fitting ends =
    unwrap_or (option_or (last_or candidate (filter may_end (filter is_fit ends))) (last_or fitting (filter is_fit ends))) len

-- the gap of a place
abbrev pub end_of : Option Place → Option ℕ
end_of place = option_map (λ p. p.end) place

-- the piece from `start` was looked through, up to the clusters that a walk has left
pub record Looked (width tab : ℕ) (line : List ℕ) (start : ℕ) (look : Look) (left : List ClusterAt) : Type 0 where
  pub front : List (List ℕ)
  pub these : List (List ℕ)
  pub back : List (List ℕ)
  pub parts : clusters_in line ≡ front ++ (these ++ back)
  pub gap : length (concat front) ≡ start
  pub rest : left ≡ placed tab (start + length (concat these)) look.column back
  pub column : look.column ≡ fold (column_after tab) 0 these
  pub solid : look.solid ≡ columns_between tab line start (start + solid_len (concat these))
  pub candidate : ForSome look.candidate (IsAhead tab line start)
  pub fitting : ForSome look.fitting (IsAhead tab line start)
  pub begun : ForNone look.fitting (these ≡ [])
  pub found : end_among (fits width tab line start) (is_candidate line) (length line) (end_of look.candidate)
      (option_or (end_of look.fitting) (slice_get (ends_from (start + length (concat these)) back) 0))
      (ends_from (start + length (concat these)) back)
      ≡ piece_end width tab line start

-- the piece was looked through to where no end that is left fits
pub record IsThrough (width tab : ℕ) (line : List ℕ) (start : ℕ) (look : Look) : Type 0 where
  pub left : List ClusterAt
  pub looked : Looked width tab line start look left
  pub none : filter (fits width tab line start) (ends_from (start + length (concat looked.these)) looked.back) ≡ []
  pub at_end : look.fitting ≡ None → start ≡ length line

-- the ends of the pieces from `start` to `end` were put behind those before
pub record AddsPieces (width tab : ℕ) (line : List ℕ) (start end : ℕ) (before after : List ℕ) : Type 0 where
  pub more : List ℕ
  pub is : after ≡ before ++ more
  pub breaks : (rest : List ℕ) → AreBreaksFrom width tab line end rest → AreBreaksFrom width tab line start (more ++ rest)
