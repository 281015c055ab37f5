-- Pieces that have the numbers of logical lines.
use Rattle.std.proofs.Common.{◌≡◌, ◌≢◌, ◌⊎◌, inl, inr, ⊎_elim, ℕ, zero, suc, ◌+◌, ◌-◌, ◌<◌, ◌≤◌, true, List, [], ◌∷◌, ◌++◌, length, take, Option, Some, None, refl, sym, ap, subst, ◌∙◌, arith, length-append}
use Rattle.std.specs.Prelude.{is_some, unwrap_or, slice_get}
use Rattle.std.specs.List.{AllByRecursion, concat}
use Rattle.std.proofs.lemmas.Bool.{both_ways, cases_lt}
use Rattle.std.proofs.lemmas.List.{length-map, take_all}
use Rattle.plain_text.specs.Lines.{logical_lines}
use Rattle.plain_screen.specs.declared.piece.Piece.{Piece}
use Rattle.plain_screen.specs.View.{AreEnds, ArePieces, pieces_of_line, pieces_from}
use Rattle.plain_screen.proofs.callers.ViewLemmas.{concat-logical_lines, lines_of}
use Rattle.plain_screen.proofs.callers.OwnLemmas.{EndAt-ends, own-rest, slice_get-back, slice_get-front, the_first}

-- the pieces of lines whose first number is this are cut somewhere
abbrev AreCut : List (List ℕ × List ℕ) → Type 0
AreCut cuts = AllByRecursion (λ (line, ends). AreEnds (length line) ends) cuts

some_is : (n : ℕ) (o : Option ℕ) → o ≡ Some n → is_some o ≡ true
some_is n o is = ap is_some is

some_same : (n m : ℕ) (o : Option ℕ) → o ≡ Some n → o ≡ Some m → n ≡ m
some_same n m o one other = ap (λ p. unwrap_or p 0) (sym one ∙ other)

-- the first piece of a line has its number and start, and no other piece of it has one
first-own : (start number : ℕ) (ends : List ℕ) (i n : ℕ) (piece : Piece) → slice_get (pieces_of_line start (Some number) 0 ends) i ≡ Some piece → piece.ln ≡ Some n →
    (i ≡ 0) × (number ≡ n) × (piece.start ≡ start)
first-own start number [] i n piece is numbered = absurd cc
first-own start number (end ∷ ends) zero n piece is numbered =
    let same = the_first _ piece (pieces_of_line start None end ends) is in
    let At : Piece → Type 0 = λ p. p.ln ≡ Some n → (zero ≡ 0) × (number ≡ n) × (p.start ≡ start) in
    subst At same (λ told. (refl, some_same number n (Some number) refl told, omega arith)) numbered
first-own start number (end ∷ ends) (suc i) n piece is numbered =
    absurd (both_ways (is_some piece.ln) (own-rest start number (end ∷ ends) (suc i) piece (omega arith) is) (some_is n piece.ln numbered))

module _ (number start : ℕ) (line ends : List ℕ) (cuts : List (List ℕ × List ℕ)) where
  abbrev own : List Piece
  own = pieces_of_line start (Some number) 0 ends

  abbrev rest : List Piece
  rest = pieces_from (number + 1) (start + length line) cuts

  -- such a piece is the first one of this line, or one of the lines after it
  split : (i n : ℕ) (piece : Piece) → slice_get (own ++ rest) i ≡ Some piece → piece.ln ≡ Some n →
      ((i ≡ 0) × (number ≡ n) × (piece.start ≡ start)) ⊎ ((length own ≤ i) × (slice_get rest (i - length own) ≡ Some piece))
  split i n piece is numbered =
      ⊎_elim
      (λ (less : i < length own). inl (first-own start number ends i n piece (sym (slice_get-front own rest i less) ∙ is) numbered))
      (λ (past : length own ≤ i). inr (past, sym (slice_get-back own rest i past) ∙ is))
      (cases_lt i (length own))

-- a piece with a number starts where the lines before that one end
head-from : (number start : ℕ) (cuts : List (List ℕ × List ℕ)) (i n : ℕ) (piece : Piece) → slice_get (pieces_from number start cuts) i ≡ Some piece → piece.ln ≡ Some n →
    (number ≤ n) × (n < number + length cuts) × (piece.start ≡ start + length (concat (take (n - number) (lines_of cuts))))
head-from number start [] i n piece is numbered = absurd cc
head-from number start ((line, ends) ∷ cuts) i n piece is numbered =
    ⊎_elim
    (λ here.
    let same = here.1 in
    let at = here.2 in
    let none : n - number ≡ 0 = omega arith in
    (omega arith, omega arith, omega (arith, ap (λ k. length (concat (take k (line ∷ lines_of cuts)))) none)))
    (λ later.
    let told = head-from (number + 1) (start + length line) cuts (i - length (own number start line ends cuts)) n piece later.1 numbered in
    let low = told.0 in
    let high = told.1 in
    let at = told.2 in
    let more : n - number ≡ suc (n - (number + 1)) = omega arith in (
      omega arith,
      omega arith,
      omega (
        arith,
        ap (λ k. length (concat (take k (line ∷ lines_of cuts)))) more,
        length-append line (concat (take (n - (number + 1)) (lines_of cuts))),
      ),
    ))
    (split number start line ends cuts i n piece is numbered)

-- the numbers rise
heads-from : (number start : ℕ) (cuts : List (List ℕ × List ℕ)) (i j n m : ℕ) (piece other : Piece) → i < j →
    slice_get (pieces_from number start cuts) i ≡ Some piece → piece.ln ≡ Some n → slice_get (pieces_from number start cuts) j ≡ Some other → other.ln ≡ Some m → n < m
heads-from number start [] i j n m piece other less is numbered is_too numbered_too = absurd cc
heads-from number start ((line, ends) ∷ cuts) i j n m piece other less is numbered is_too numbered_too =
    ⊎_elim
    (λ here_too. absurd (let at = here_too.0 in omega arith))
    (λ later_too. ⊎_elim
    (λ here.
    let same = here.1 in
    let low = (head-from (number + 1) (start + length line) cuts (j - length (own number start line ends cuts)) m other later_too.1 numbered_too).0 in omega arith)
    (λ later.
    let past = later.0 in
    heads-from (number + 1) (start + length line) cuts (i - length (own number start line ends cuts)) (j - length (own number start line ends cuts)) n m piece other
    (omega arith) later.1 numbered later_too.1 numbered_too)
    (split number start line ends cuts i n piece is numbered))
    (split number start line ends cuts j m other is_too numbered_too)

-- each of the lines has a piece with its number
pub record HasHead (pieces : List Piece) (n : ℕ) : Type 0 where
  pub index : ℕ
  pub piece : Piece
  pub there : slice_get pieces index ≡ Some piece
  pub number : piece.ln ≡ Some n

first-head : (start number : ℕ) (ends : List ℕ) (others : List Piece) → ends ≢ [] → HasHead (pieces_of_line start (Some number) 0 ends ++ others) number
first-head start number [] others some = absurd (some refl)
first-head start number (end ∷ ends) others some =
    record { index = 0; piece = record { start = start + 0; end = start + end; ln = Some number }; there = refl; number = refl }

some-head : (number start n : ℕ) (cuts : List (List ℕ × List ℕ)) → AreCut cuts → number ≤ n → n < number + length cuts → HasHead (pieces_from number start cuts) n
some-head number start n [] are low high = absurd (omega arith)
some-head number start n ((line, ends) ∷ cuts) are low high =
    ⊎_elim
    (λ (less : number < n).
    let more = some-head (number + 1) (start + length line) n cuts are.1 (omega arith) (omega arith) in
    let owned = own number start line ends cuts in
    let back : length owned + more.index - length owned ≡ more.index = omega arith in record {
      index = length owned + more.index;
      piece = more.piece;
      there =
          slice_get-back owned (rest number start line ends cuts) (length owned + more.index) (omega arith) ∙
          ap (slice_get (rest number start line ends cuts)) back ∙ more.there;
      number = more.number;
    })
    (λ (here : n ≤ number).
    let same : number ≡ n = omega arith in
    subst (HasHead (own number start line ends cuts ++ rest number start line ends cuts)) same
    (first-head start number ends (rest number start line ends cuts) (EndAt-ends (length line) ends are.0).1))
    (cases_lt number n)

module _ (text : List ℕ) (pieces : List Piece) (are : ArePieces text pieces) where
  -- the first piece has a number
  pub head-first : (piece : Piece) → slice_get pieces 0 ≡ Some piece → is_some piece.ln ≡ true
  head-first piece is = by are.cuts are.ends (subst (λ ps. slice_get ps 0 ≡ Some piece) are.is is)
    where
      by : (cuts : List (List ℕ × List ℕ)) → AreCut cuts → slice_get (pieces_from 1 0 cuts) 0 ≡ Some piece → is_some piece.ln ≡ true
      by [] all at = absurd cc
      by ((line, ends) ∷ cuts) all at =
          first ends (pieces_from (1 + 1) (0 + length line) cuts) (EndAt-ends (length line) ends all.0).1 at
        where
          first : (es : List ℕ) (others : List Piece) → es ≢ [] → slice_get (pieces_of_line 0 (Some 1) 0 es ++ others) 0 ≡ Some piece → is_some piece.ln ≡ true
          first [] others some at = absurd (some refl)
          first (end ∷ es) others some at =
              subst (λ p. is_some p.ln ≡ true) (the_first _ piece (pieces_of_line 0 None end es ++ others) at) refl

  pub head-start : (i n : ℕ) (piece : Piece) → slice_get pieces i ≡ Some piece → piece.ln ≡ Some n →
      (1 ≤ n) × (piece.start ≡ length (concat (take (n - 1) (logical_lines text))))
  head-start i n piece is numbered =
      let told = head-from 1 0 are.cuts i n piece (subst (λ ps. slice_get ps i ≡ Some piece) are.is is) numbered in
      let at = told.2 in (told.0, omega (arith, ap (λ ls. length (concat (take (n - 1) ls))) are.lines))

  pub heads-rise : (i j n m : ℕ) (piece other : Piece) → i < j → slice_get pieces i ≡ Some piece → piece.ln ≡ Some n → slice_get pieces j ≡ Some other →
      other.ln ≡ Some m → n < m
  heads-rise i j n m piece other less is numbered is_too numbered_too =
      heads-from 1 0 are.cuts i j n m piece other less (subst (λ ps. slice_get ps i ≡ Some piece) are.is is) numbered
      (subst (λ ps. slice_get ps j ≡ Some other) are.is is_too) numbered_too

  -- where no piece has the number of a line, the lines before it are all
  pub head-none : (n : ℕ) → (HasHead pieces (n + 1) → ⊥) → length text ≡ length (concat (take n (logical_lines text)))
  head-none n none =
      ⊎_elim
      (λ (less : n < length are.cuts).
      absurd (none (subst (λ ps. HasHead ps (n + 1)) (sym are.is) (some-head 1 0 (n + 1) are.cuts are.ends (omega arith) (omega arith)))))
      (λ (past : length are.cuts ≤ n).
      let count : length (logical_lines text) ≡ length are.cuts = ap length (sym are.lines) ∙ length-map are.cuts (λ (line, ends). line) in
      ap length (sym (concat-logical_lines text)) ∙ ap (λ ls. length (concat ls)) (sym (take_all n (logical_lines text) (omega arith))))
      (cases_lt n (length are.cuts))
