-- There is always a piece, and each logical line has one.
use Rattle.std.proofs.Common.{◌≡◌, ℕ, suc, ◌+◌, ◌<◌, ◌≤◌, Bool, true, false, List, [], ◌∷◌, ◌++◌, length, length-append, map, None, Some, arith}
use Rattle.std.specs.Prelude.{if◌then◌else◌, ◌==◌, ◌||◌, nat_lt}
use Rattle.std.specs.List.{onto_first}
use Rattle.std.proofs.lemmas.Bool.{lt-ltb}
use Rattle.plain_text.specs.Lines.{logical_lines}
use Rattle.plain_screen.specs.declared.piece.Piece.{Piece}
use Rattle.plain_screen.specs.View.{pieces_from, pieces_of_line}
use Rattle.line_break.specs.Breaks.{breaks_from, breaks_of}
use Rattle.line_break.specs.Pieces.{wrapped_pieces}

-- a line has a piece, and so has a text
breaks-some : (width tab : ℕ) (line : List ℕ) → 0 < length (breaks_of width tab line)
breaks-some width tab [] = by (width == 0)
  where
    by : (b : Bool) → 0 < length (if b || true then 0 ∷ [] else breaks_from width tab [] 0 0)
    by true = omega arith
    by false = omega arith
breaks-some width tab (c ∷ line) = by (width == 0 || length (c ∷ line) == 0)
  where
    first : (b : Bool) (end : ℕ) (ends : List ℕ) → b ≡ true → 0 < length (if b then end ∷ ends else [])
    first true end ends is = omega arith
    first false end ends is = absurd cc

    by : (b : Bool) → 0 < length (if b then length (c ∷ line) ∷ [] else breaks_from width tab (c ∷ line) 0 (length (c ∷ line)))
    by true = omega arith
    by false = first (nat_lt 0 (length (c ∷ line))) _ _ (lt-ltb 0 (length (c ∷ line)) (omega arith))

pub pieces-some : (width tab : ℕ) (text : List ℕ) → 0 < length (wrapped_pieces width tab text)
pieces-some width tab text = by_lines (logical_lines text) (lines text)
  where
    lines : (rest : List ℕ) → 0 < length (logical_lines rest)
    lines [] = omega arith
    lines (c ∷ rest) = by_end (c == 10) (logical_lines rest)
      where
        by_end : (b : Bool) (others : List (List ℕ)) → 0 < length (if b then (c ∷ []) ∷ others else onto_first c others)
        by_end true others = omega arith
        by_end false [] = omega arith
        by_end false (line ∷ others) = omega arith

    by_ends : (ends : List ℕ) (rest : List Piece) → 0 < length ends → 0 < length (pieces_of_line 0 (Some 1) 0 ends ++ rest)
    by_ends [] rest some = absurd (omega (arith, some))
    by_ends (end ∷ ends) rest some = omega arith

    by_lines : (others : List (List ℕ)) → 0 < length others → 0 < length (pieces_from 1 0 (map (λ line. (line, breaks_of width tab line)) others))
    by_lines [] some = absurd (omega (arith, some))
    by_lines (line ∷ others) some = by_ends (breaks_of width tab line) _ (breaks-some width tab line)

-- there are as many pieces as logical lines at least
pub lines-within : (width tab : ℕ) (text : List ℕ) → length (logical_lines text) ≤ length (wrapped_pieces width tab text)
lines-within width tab text = each 1 0 (logical_lines text)
  where
    more : (ends : List ℕ) (start number many : ℕ) (rest : List Piece) → 0 < length ends → many ≤ length rest →
        suc many ≤ length (pieces_of_line start (Some number) 0 ends ++ rest)
    more [] start number many rest some few = absurd (omega (arith, some))
    more (end ∷ ends) start number many rest some few = omega (arith, few, length-append (pieces_of_line start None end ends) rest)

    each : (number start : ℕ) (lines : List (List ℕ)) →
        length lines ≤ length (pieces_from number start (map (λ line. (line, breaks_of width tab line)) lines))
    each number start [] = omega arith
    each number start (line ∷ lines) =
        more (breaks_of width tab line) start number (length lines) _ (breaks-some width tab line) (each (number + 1) (start + length line) lines)
