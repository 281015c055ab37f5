-- The rule of wrapping, as a test on a list of ends.
use Rattle.std.specs.Prelude.{◌≡◌, ◌⊎◌, ℕ, zero, suc, ◌-◌, ◌<◌, ◌≤◌, true, List, [], ◌∷◌, length, slice_index}
use Rattle.std.specs.List.{Contains}
use Rattle.line_break.specs.Breaks.{cluster_ends, is_breaking, piece_columns}

-- the greatest of the numbers of which P holds
pub record IsGreatest (P : ℕ → Type 0) (n : ℕ) : Type 0 where
  pub is : P n
  pub greatest : (other : ℕ) → P other → other ≤ n

-- the least of the numbers of which P holds
pub record IsLeast (P : ℕ → Type 0) (n : ℕ) : Type 0 where
  pub is : P n
  pub least : (other : ℕ) → P other → n ≤ other

-- P holds of no number
abbrev pub HoldsNowhere : (ℕ → Type 0) → Type 0
HoldsNowhere P = (n : ℕ) → ¬ P n

-- a cluster ends at this gap, past the start of a piece
pub record IsEndPast (line : List ℕ) (start end : ℕ) : Type 0 where
  pub cluster : Contains (cluster_ends line) end
  pub past : start < end

-- such an end up to which the piece fits
pub record IsFittingEnd (width tab : ℕ) (line : List ℕ) (start end : ℕ) : Type 0 where
  pub end_past : IsEndPast line start end
  pub fits : piece_columns tab line start end ≤ width

-- such an end that is the line's end, or stands directly after a space, a tab or `-`
pub record IsFittingCandidate (width tab : ℕ) (line : List ℕ) (start end : ℕ) : Type 0 where
  pub fitting : IsFittingEnd width tab line start end
  pub candidate : (end ≡ length line) ⊎ (is_breaking (slice_index line (end - 1)) ≡ true)

-- THE RULE: a piece ends at the greatest candidate that fits, or else at the greatest cluster's end that fits, or else at the first one
abbrev pub IsPieceEnd : ℕ → ℕ → List ℕ → ℕ → ℕ → Type 0
IsPieceEnd width tab line start end =
    IsGreatest (IsFittingCandidate width tab line start) end
    ⊎ ((HoldsNowhere (IsFittingCandidate width tab line start) × IsGreatest (IsFittingEnd width tab line start) end)
    ⊎ (HoldsNowhere (IsFittingEnd width tab line start) × IsLeast (IsEndPast line start) end))

-- each number ends the piece that starts at the one before it, the first at `start`, and the last is the line's end
abbrev pub AreBreaksFrom : ℕ → ℕ → List ℕ → ℕ → List ℕ → Type 0
AreBreaksFrom width tab line start [] = start ≡ length line
AreBreaksFrom width tab line start (end ∷ ends) =
    (start < length line) × IsPieceEnd width tab line start end × AreBreaksFrom width tab line end ends

-- THE TEST OF BREAKS: an empty line is one empty piece, and with width 0 each line is one piece
abbrev pub AreBreaks : ℕ → ℕ → List ℕ → List ℕ → Type 0
AreBreaks width tab [] ends = ends ≡ 0 ∷ []
AreBreaks zero tab (c ∷ line) ends = ends ≡ length (c ∷ line) ∷ []
AreBreaks (suc width) tab (c ∷ line) ends = AreBreaksFrom (suc width) tab (c ∷ line) 0 ends
