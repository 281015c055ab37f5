-- Lemmas on the pieces of a line and of a text.
use Rattle.std.proofs.Common.{◌≡◌, ◌⊎◌, inl, inr, ℕ, zero, suc, ◌-◌, ◌<◌, ◌≤◌, ◌==◌, ◌&&◌, Bool, true, false, cond, List, [], ◌∷◌, ◌++◌, length, map, take, drop, refl, sym, ap, subst, ◌∙◌, arith, append-nil}
use Rattle.std.specs.Prelude.{slice_range}
use Rattle.std.specs.List.{AllByRecursion, concat, onto_first}
use Rattle.std.specs.Str.{all_scalars}
use Rattle.std.proofs.lemmas.Bool.{and_parts}
use Rattle.std.proofs.lemmas.Grind.{common_steps}
use Rattle.unicode_segmentation.proofs.TextLemmas.{slice_range_split}
use Rattle.plain_text.specs.Lines.{logical_lines}
use Rattle.plain_screen.specs.View.{RiseTo, AreEnds, ArePieces}
use Rattle.line_break.specs.Breaks.{breaks_of, piece_columns}
use Rattle.line_break.specs.Pieces.{cut_at, EachPiece, wrapped_pieces}
use Rattle.line_break.specs.Test.{IsLeast, IsEndPast, IsPieceEnd, AreBreaksFrom, AreBreaks}
use Rattle.line_break.proofs.TestLemmas.{IsEndPast-piece, breaks_of-pass}

AreBreaksFrom-le : (width tab : ℕ) (line : List ℕ) (start : ℕ) (ends : List ℕ) → AreBreaksFrom width tab line start ends → start ≤ length line
AreBreaksFrom-le width tab line start [] are = omega arith
AreBreaksFrom-le width tab line start (end ∷ ends) are = let lt = are.0 in omega arith

cut_at-joined : (width tab : ℕ) (line : List ℕ) (start : ℕ) (ends : List ℕ) → AreBreaksFrom width tab line start ends →
    concat (cut_at line start ends) ≡ slice_range line start (length line)
cut_at-joined width tab line start [] are =
    let none : length line - start ≡ 0 = omega arith in sym (ap (λ n. take n (drop start line)) none)
cut_at-joined width tab line start (end ∷ ends) are =
    let past = (IsEndPast-piece width tab line start end are.1).past in
    let le = AreBreaksFrom-le width tab line end ends are.2 in
    ap (λ t. slice_range line start end ++ t) (cut_at-joined width tab line end ends are.2) ∙
    sym (slice_range_split line start end (length line) (omega arith) le)

all_of : (line : List ℕ) → slice_range line 0 (length line) ≡ line
all_of line = let same : length line - 0 ≡ length line = omega arith in ap (λ n. take n line) same ∙ take_whole line
  where
    take_whole : (xs : List ℕ) → take (length xs) xs ≡ xs
    take_whole xs = grind (arith, common_steps)

pub pieces-joined : (width tab : ℕ) (line ends : List ℕ) → AreBreaks width tab line ends → concat (cut_at line 0 ends) ≡ line
pieces-joined width tab [] ends are = ap (λ es. concat (cut_at [] 0 es)) are
pieces-joined zero tab (c ∷ line) ends are =
    ap (λ es. concat (cut_at (c ∷ line) 0 es)) are ∙ append-nil (slice_range (c ∷ line) 0 (length (c ∷ line))) ∙ all_of (c ∷ line)
pieces-joined (suc width) tab (c ∷ line) ends are = cut_at-joined (suc width) tab (c ∷ line) 0 ends are ∙ all_of (c ∷ line)

each-from : (width tab : ℕ) (line : List ℕ) (start : ℕ) (ends : List ℕ) → AreBreaksFrom width tab line start ends →
    EachPiece (λ from to. (piece_columns tab line from to ≤ width) ⊎ IsLeast (IsEndPast line from) to) start ends
each-from width tab line start [] are = tt
each-from width tab line start (end ∷ ends) are = (own are.1, each-from width tab line end ends are.2)
  where
    own : IsPieceEnd width tab line start end → (piece_columns tab line start end ≤ width) ⊎ IsLeast (IsEndPast line start) end
    own (inl candidate) = inl candidate.is.fitting.fits
    own (inr (inl fitting)) = inl fitting.1.is.fits
    own (inr (inr first)) = inr first.1

pub pieces-each : (width tab : ℕ) (line ends : List ℕ) → 0 < width → 0 < length line → AreBreaks width tab line ends →
    EachPiece (λ start end. (piece_columns tab line start end ≤ width) ⊎ IsLeast (IsEndPast line start) end) 0 ends
pieces-each width tab [] ends wide some are = absurd (omega arith)
pieces-each zero tab (c ∷ line) ends wide some are = absurd (omega arith)
pieces-each (suc width) tab (c ∷ line) ends wide some are = each-from (suc width) tab (c ∷ line) 0 ends are

-- ---- pieces of a text

RiseTo-from : (width tab : ℕ) (line : List ℕ) (start : ℕ) (ends : List ℕ) → AreBreaksFrom width tab line start ends → RiseTo (length line) start ends
RiseTo-from width tab line start [] are = are
RiseTo-from width tab line start (end ∷ ends) are =
    ((IsEndPast-piece width tab line start end are.1).past, RiseTo-from width tab line end ends are.2)

AreEnds-breaks : (width tab : ℕ) (line ends : List ℕ) → AreBreaks width tab line ends → AreEnds (length line) ends
AreEnds-breaks width tab [] ends are = are
AreEnds-breaks zero tab (c ∷ line) ends are = subst (RiseTo (length (c ∷ line)) 0) (sym are) (omega arith, refl)
AreEnds-breaks (suc width) tab (c ∷ line) ends are = RiseTo-from (suc width) tab (c ∷ line) 0 ends are

pub AreEnds-breaks_of : (width tab : ℕ) (line : List ℕ) → all_scalars line ≡ true → AreEnds (length line) (breaks_of width tab line)
AreEnds-breaks_of width tab line scalars = AreEnds-breaks width tab line (breaks_of width tab line) (breaks_of-pass width tab line scalars)

onto_first-scalars : (c : ℕ) (lines : List (List ℕ)) → all_scalars (c ∷ []) ≡ true → AllByRecursion (λ (line : List ℕ). all_scalars line ≡ true) lines →
    AllByRecursion (λ (line : List ℕ). all_scalars line ≡ true) (onto_first c lines)
onto_first-scalars c [] first rest = (first, tt)
onto_first-scalars c (line ∷ lines) first rest = (both _ _ first rest.0, rest.1)
  where
    both : (a b : Bool) → (a && true) ≡ true → b ≡ true → (a && b) ≡ true
    both true b one other = other
    both false b one other = one

lines-scalars : (text : List ℕ) → all_scalars text ≡ true → AllByRecursion (λ (line : List ℕ). all_scalars line ≡ true) (logical_lines text)
lines-scalars [] scalars = (refl, tt)
lines-scalars (c ∷ text) scalars =
    by (c == 10) (one _ _ scalars) (lines-scalars text (and_parts _ _ scalars).1)
  where
    one : (a b : Bool) → (a && b) ≡ true → (a && true) ≡ true
    one true b both = refl
    one false b both = both

    by : (b : Bool) → all_scalars (c ∷ []) ≡ true → AllByRecursion (λ (line : List ℕ). all_scalars line ≡ true) (logical_lines text) →
        AllByRecursion (λ (line : List ℕ). all_scalars line ≡ true) (cond b ((c ∷ []) ∷ logical_lines text) (onto_first c (logical_lines text)))
    by true first rest = (first, rest)
    by false first rest = onto_first-scalars c (logical_lines text) first rest

pub ArePieces-wrapped : (width tab : ℕ) (text : List ℕ) → all_scalars text ≡ true → ArePieces text (wrapped_pieces width tab text)
ArePieces-wrapped width tab text scalars = record {
  cuts = map (λ line. (line, breaks_of width tab line)) (logical_lines text);
  lines = firsts (logical_lines text);
  ends = own (logical_lines text) (lines-scalars text scalars);
  is = refl;
}
  where
    firsts : (lines : List (List ℕ)) → map (λ (line, ends). line) (map (λ line. (line, breaks_of width tab line)) lines) ≡ lines
    firsts [] = refl
    firsts (line ∷ lines) = ap (λ ls. line ∷ ls) (firsts lines)

    own : (lines : List (List ℕ)) → AllByRecursion (λ (line : List ℕ). all_scalars line ≡ true) lines →
        AllByRecursion (λ (line, ends). AreEnds (length line) ends) (map (λ line. (line, breaks_of width tab line)) lines)
    own [] each = tt
    own (line ∷ lines) each = (AreEnds-breaks_of width tab line each.0, own lines each.1)
