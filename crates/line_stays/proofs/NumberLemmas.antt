-- The first piece of the logical line of a gap, and the piece behind it, by the logical lines before them.
use Rattle.std.proofs.Common.{◌≡◌, ◌≢◌, ◌⊎◌, inl, inr, ℕ, zero, suc, ◌+◌, ◌-◌, ◌<◌, ◌≤◌, List, [], ◌∷◌, ◌++◌, length, take, Option, Some, refl, ap, sym, ◌∙◌, arith}
use Rattle.std.specs.Prelude.{slice_get, unwrap_or}
use Rattle.std.proofs.lemmas.Option.{slice_get-map, slice_get_within}
use Rattle.std.specs.Option.{option_map}
use Rattle.plain_text.specs.Lines.{logical_lines}
use Rattle.plain_screen.specs.declared.piece.Piece.{Piece}
use Rattle.plain_screen.specs.View.{AreEnds, LogicalLine, layout_line_of, line_under, logical_line_of, pieces_by, pieces_from, pieces_of_line, start_of}
use Rattle.plain_screen.proofs.callers.OwnLemmas.{EndAt-ends, layout_line_of-start, length-own, length-some, slice_get-back, start_of-get}
use Rattle.plain_screen.proofs.callers.ViewLemmas.{IsLogicalLineOf-logical_line_of}
use Rattle.line_stays.specs.Edges.{first_piece, past_piece}
use Rattle.line_stays.specs.Laws.{CutsLines}
use Rattle.line_stays.proofs.SplitLemmas.{AreCuts, Cut, are-pieces, chars-cut, chars_in, count-pieces, cut_text, group-at, pieces_in, plain-line}
use Rattle.line_stays.proofs.TouchLemmas.{cut-lines, cuts_of}
use Rattle.line_stays.proofs.WholeLemmas.{line-inside, own-at, past-same}

-- ---- cut lines up to one

pub take-next : (cuts : List Cut) (i : ℕ) (cut : Cut) → slice_get cuts i ≡ Some cut → pieces_in (take (suc i) cuts) ≡ pieces_in (take i cuts) + length cut.1
take-next [] i cut is = absurd cc
take-next ((line, ends) ∷ cuts) zero cut is =
    let same : length ends ≡ length cut.1 = ap (λ (o : Option Cut). length (unwrap_or o (line, ends)).1) is in
    let none : length ends + pieces_in (take 0 cuts) ≡ 0 + length cut.1 = omega (arith, same) in none
take-next ((line, ends) ∷ cuts) (suc i) cut is = let later = take-next cuts i cut is in omega (arith, later)

pub chars-next : (cuts : List Cut) (i : ℕ) (cut : Cut) → slice_get cuts i ≡ Some cut → chars_in (take (suc i) cuts) ≡ chars_in (take i cuts) + length cut.0
chars-next [] i cut is = absurd cc
chars-next ((line, ends) ∷ cuts) zero cut is =
    let same : length line ≡ length cut.0 = ap (λ (o : Option Cut). length (unwrap_or o (line, ends)).0) is in
    let none : length line + chars_in (take 0 cuts) ≡ 0 + length cut.0 = omega (arith, same) in none
chars-next ((line, ends) ∷ cuts) (suc i) cut is = let later = chars-next cuts i cut is in omega (arith, later)

pub take-rise : (cuts : List Cut) (i j : ℕ) → i ≤ j → pieces_in (take i cuts) ≤ pieces_in (take j cuts)
take-rise cuts zero j le = omega arith
take-rise [] (suc i) zero le = absurd (omega (arith, le))
take-rise [] (suc i) (suc j) le = omega arith
take-rise ((line, ends) ∷ cuts) (suc i) zero le = absurd (omega (arith, le))
take-rise ((line, ends) ∷ cuts) (suc i) (suc j) le = let later = take-rise cuts i j (omega (arith, le)) in omega (arith, later)

pub take-cuts : (ends_of : List ℕ → List ℕ) (i : ℕ) (lines : List (List ℕ)) → take i (cuts_of ends_of lines) ≡ cuts_of ends_of (take i lines)
take-cuts ends_of zero lines = refl
take-cuts ends_of (suc i) [] = refl
take-cuts ends_of (suc i) (line ∷ lines) = ap (λ cs. (line, ends_of line) ∷ cs) (take-cuts ends_of i lines)

some-ends : (len : ℕ) (ends : List ℕ) → AreEnds len ends → 0 < length ends
some-ends len ends are = length-some ends (EndAt-ends len ends are).1

-- lines have pieces
pub some-pieces : (cuts : List Cut) → AreCuts cuts → 0 < length cuts → 0 < pieces_in cuts
some-pieces [] are some = absurd (omega (arith, some))
some-pieces ((line, ends) ∷ cuts) are some = omega (arith, some-ends (length line) ends are.0)

cut-some : (cuts : List Cut) (i : ℕ) (cut : Cut) → AreCuts cuts → slice_get cuts i ≡ Some cut → 0 < length cut.1
cut-some [] i cut are is = absurd cc
cut-some ((line, ends) ∷ cuts) zero cut are is =
    let same : length ends ≡ length cut.1 = ap (λ (o : Option Cut). length (unwrap_or o (line, ends)).1) is in
    omega (arith, same, some-ends (length line) ends are.0)
cut-some ((line, ends) ∷ cuts) (suc i) cut are is = cut-some cuts i cut are.1 is

-- the first piece of a cut line
head-at : (number start : ℕ) (cuts : List Cut) → AreCuts cuts → (i : ℕ) (cut : Cut) → slice_get cuts i ≡ Some cut →
    (piece : Piece) × (slice_get (pieces_from number start cuts) (pieces_in (take i cuts)) ≡ Some piece) × (piece.start ≡ start + chars_in (take i cuts))
head-at number start [] are i cut is = absurd cc
head-at number start ((line, ends) ∷ cuts) are zero cut is = first ends (EndAt-ends (length line) ends are.0).1
  where
    first : (es : List ℕ) → es ≢ [] →
        (piece : Piece) × (slice_get (pieces_of_line start (Some number) 0 es ++ pieces_from (number + 1) (start + length line) cuts) 0 ≡ Some piece) × (piece.start ≡ start + 0)
    first [] some = absurd (some refl)
    first (end ∷ es) some = (record { start = start + 0; end = start + end; ln = Some number }, refl, refl)
head-at number start ((line, ends) ∷ cuts) are (suc i) cut is =
    let later = head-at (number + 1) (start + length line) cuts are.1 i cut is in
    let long = length-own start (Some number) 0 ends in
    let on : length ends + pieces_in (take i cuts) - length (pieces_of_line start (Some number) 0 ends) ≡ pieces_in (take i cuts) = omega (arith, long) in (
      later.0,
      slice_get-back (pieces_of_line start (Some number) 0 ends) (pieces_from (number + 1) (start + length line) cuts) (length ends + pieces_in (take i cuts))
          (omega (arith, long)) ∙ ap (slice_get (pieces_from (number + 1) (start + length line) cuts)) on ∙ later.1,
      omega (arith, later.2),
    )

module _ (ends_of : List ℕ → List ℕ) (text : List ℕ) (cuts : CutsLines ends_of text) (gap : ℕ) where
  abbrev pieces : List Piece
  pieces = pieces_by ends_of text

  abbrev index : ℕ
  index = (logical_line_of text gap).index

  abbrev line : List ℕ
  line = (logical_line_of text gap).text

  pub are-cuts : AreCuts (cut_text ends_of text cuts)
  are-cuts = cut-lines ends_of (plain-line ends_of text cuts) (λ piece. refl) (logical_lines text) cuts

  cut-is : slice_get (cut_text ends_of text cuts) index ≡ Some (line, ends_of line)
  cut-is =
      slice_get-map (λ l. (l, ends_of l)) (logical_lines text) index ∙ ap (option_map (λ l. (l, ends_of l))) (IsLogicalLineOf-logical_line_of text gap).is

  start-is : (logical_line_of text gap).start ≡ chars_in (take index (cut_text ends_of text cuts))
  start-is =
      (IsLogicalLineOf-logical_line_of text gap).start ∙ sym (chars-cut ends_of (take index (logical_lines text))) ∙
      ap chars_in (sym (take-cuts ends_of index (logical_lines text)))

  -- the logical line of a gap ends behind the gap, or is the last one
  pub gap-before : (index + 1 ≡ length (logical_lines text)) ⊎ (gap < chars_in (take (suc index) (cut_text ends_of text cuts)))
  gap-before = by (IsLogicalLineOf-logical_line_of text gap).last
    where
      by : (index + 1 ≡ length (logical_lines text)) ⊎ (gap < (logical_line_of text gap).start + length line) →
          (index + 1 ≡ length (logical_lines text)) ⊎ (gap < chars_in (take (suc index) (cut_text ends_of text cuts)))
      by (inl all) = inl all
      by (inr before) = inr (omega (arith, before, start-is, chars-next (cut_text ends_of text cuts) index (line, ends_of line) cut-is))

  pub start-by : chars_in (take index (cut_text ends_of text cuts)) ≤ gap
  start-by = omega (arith, start-is, (IsLogicalLineOf-logical_line_of text gap).by_then)

  pub inside : index < length (logical_lines text)
  inside = slice_get_within (logical_lines text) index line (IsLogicalLineOf-logical_line_of text gap).is

  -- ITS FIRST PIECE stands behind those of the logical lines before it
  pub first-of-gap : first_piece text pieces (layout_line_of pieces gap) ≡ pieces_in (take index (cut_text ends_of text cuts))
  first-of-gap =
      let own = own-at text pieces (are-pieces ends_of text cuts) (layout_line_of pieces gap) (line-inside text pieces (are-pieces ends_of text cuts) gap) in
      let head = head-at 1 0 (cut_text ends_of text cuts) are-cuts index (line, ends_of line) cut-is in
      let there = slice_get_within pieces (pieces_in (take index (cut_text ends_of text cuts))) head.0 head.1 in
      let start : (line_under text pieces (layout_line_of pieces gap)).start ≡ start_of pieces (pieces_in (take index (cut_text ends_of text cuts))) =
      omega (
        arith,
        ap (λ (l : LogicalLine). l.start) (own.same gap refl),
        start-is,
        head.2,
        start_of-get pieces (pieces_in (take index (cut_text ends_of text cuts))) head.0 head.1,
      ) in
      ap (layout_line_of pieces) start ∙ layout_line_of-start text pieces (pieces_in (take index (cut_text ends_of text cuts))) (are-pieces ends_of text cuts) there

  -- AND THE PIECE BEHIND IT behind its own too
  pub past-of-gap : past_piece pieces (layout_line_of pieces gap) ≡ pieces_in (take (suc index) (cut_text ends_of text cuts))
  past-of-gap =
      let are = are-pieces ends_of text cuts in
      let x : ℕ = layout_line_of pieces gap in
      let p : ℕ = pieces_in (take index (cut_text ends_of text cuts)) in
      let there = line-inside text pieces are gap in
      let own = own-at text pieces are x there in
      let some = cut-some (cut_text ends_of text cuts) index (line, ends_of line) are-cuts cut-is in
      let next = take-next (cut_text ends_of text cuts) index (line, ends_of line) cut-is in
      let fits : p + length (ends_of line) ≤ length pieces =
      omega (
        arith,
        next,
        take-rise (cut_text ends_of text cuts) (suc index) (length (cut_text ends_of text cuts)) (slice_get_within (cut_text ends_of text cuts) index (line, ends_of line) cut-is),
        ap pieces_in (take-all (cut_text ends_of text cuts)),
        count-pieces ends_of text cuts,
      ) in
      let group = group-at ends_of text cuts (plain-line ends_of text cuts) (λ piece. refl) index (line, ends_of line) cut-is fits in
      let same = past-same text pieces are x p there (omega (arith, first-of-gap)) (omega (arith, first-of-gap, own.low, own.high)) in
      omega (arith, same, group.past p (omega arith) (omega (arith, some)), next)
    where
      take-all : (cs : List Cut) → take (length cs) cs ≡ cs
      take-all [] = refl
      take-all (c ∷ cs) = ap (λ ds. c ∷ ds) (take-all cs)
