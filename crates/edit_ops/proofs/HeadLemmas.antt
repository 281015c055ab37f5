-- The search for the first piece of a numbered line.
use Rattle.std.proofs.Common.{◌≡◌, ⊎_elim, ℕ, zero, suc, ◌+◌, ◌-◌, ◌<◌, ◌≤◌, List, [], ◌∷◌, length, length-append, take, Option, Some, None, sym, ap, ◌∙◌, arith}
use Rattle.std.specs.Prelude.{is_some, slice_get, unwrap_or}
use Rattle.std.proofs.lemmas.Bool.{both_ways, cases_lt}
use Rattle.std.proofs.lemmas.Option.{slice_get_within}
use Rattle.std.specs.List.{concat}
use Rattle.plain_text.specs.Lines.{logical_lines}
use Rattle.plain_screen.specs.declared.piece.Piece.{Piece}
use Rattle.plain_screen.specs.View.{ArePieces}
use Rattle.plain_screen.proofs.callers.ViewLemmas.{concat-logical_lines}
use Rattle.movement_core.proofs.ForCallers.{head-first, head-none, head-start, heads-rise}
use Rattle.edit_ops.specs.declared.numbered.Head.{Head}
use Rattle.edit_ops.specs.Inner.{IsHeadOf}
use Rattle.edit_ops.specs.Points.{start_of_numbered}

-- a piece with this number stands between two indices, if there is one
abbrev pub StandsBetween : List Piece → ℕ → ℕ → ℕ → Type 0
StandsBetween pieces number low high = (i : ℕ) (piece : Piece) → slice_get pieces i ≡ Some piece → piece.ln ≡ Some number → (low ≤ i) × (i < high)

pub StandsBetween-all : (pieces : List Piece) (number : ℕ) → StandsBetween pieces number 0 (length pieces)
StandsBetween-all pieces number i piece is numbered = (omega arith, slice_get_within pieces i piece is)

same_number : (n m : ℕ) (o : Option ℕ) → o ≡ Some n → o ≡ Some m → n ≡ m
same_number n m o one other = ap (λ p. unwrap_or p 0) (sym one ∙ other)

none_some : (n : ℕ) (o : Option ℕ) → o ≡ None → o ≡ Some n → ⊥
none_some n o none some = both_ways (is_some o) (ap is_some none) (ap is_some some)

module _ (text : List ℕ) (pieces : List Piece) (are : ArePieces text pieces) (middle : ℕ) (head : Head) (is : IsHeadOf pieces middle head) where
  pub head-is : (line : ℕ) → head.line ≡ line → head.start ≡ start_of_numbered text line
  head-is line same =
      let less : head.line + 1 - 1 ≡ line = omega arith in
      sym is.start ∙ (head-start text pieces are head.index (head.line + 1) is.piece is.there is.number).1 ∙ ap (λ (n : ℕ). start_of_numbered text n) less

  pub StandsBetween-right : (line low high : ℕ) → head.line < line → StandsBetween pieces (line + 1) low high → StandsBetween pieces (line + 1) (middle + 1) high
  StandsBetween-right line low high less stands i piece at numbered =
      let were = stands i piece at numbered in (
        ⊎_elim
            (λ (past : middle < i). let fine : middle + 1 ≤ i = omega arith in fine)
            (λ (by_then : i ≤ middle).
            ⊎_elim
            (λ (after : head.index < i). absurd (none_some (line + 1) piece.ln (is.last i piece after by_then at) numbered))
            (λ (before : i ≤ head.index).
            ⊎_elim
            (λ (left : i < head.index).
            absurd (let rise = heads-rise text pieces are i head.index (line + 1) (head.line + 1) piece is.piece left at numbered is.there is.number in omega arith))
            (λ (here : head.index ≤ i).
            let same : head.index ≡ i = omega arith in
            let one = same_number (head.line + 1) (line + 1) (slice_get_ln i) (ln_of same) (ap ln_in at ∙ numbered) in absurd (omega arith))
            (cases_lt i head.index))
            (cases_lt head.index i))
            (cases_lt middle i),
        were.1,
      )
    where
      ln_in : Option Piece → Option ℕ
      ln_in None = None
      ln_in (Some found) = found.ln

      slice_get_ln : ℕ → Option ℕ
      slice_get_ln n = ln_in (slice_get pieces n)

      ln_of : {n : ℕ} → head.index ≡ n → slice_get_ln n ≡ Some (head.line + 1)
      ln_of same = ap slice_get_ln (sym same) ∙ ap ln_in is.there ∙ is.number

  pub StandsBetween-left : (line low high : ℕ) → line < head.line → StandsBetween pieces (line + 1) low high → StandsBetween pieces (line + 1) low head.index
  StandsBetween-left line low high more stands i piece at numbered =
      let were = stands i piece at numbered in (
        were.0,
        ⊎_elim
            (λ (left : i < head.index). left)
            (λ (reached : head.index ≤ i).
            ⊎_elim
            (λ (after : head.index < i).
            absurd (let rise = heads-rise text pieces are head.index i (head.line + 1) (line + 1) is.piece piece after is.there is.number at numbered in omega arith))
            (λ (here : i ≤ head.index).
            let same : head.index ≡ i = omega arith in
            let one = same_number (head.line + 1) (line + 1) (slice_get_ln i) (ln_of same) (ap ln_in at ∙ numbered) in absurd (omega arith))
            (cases_lt head.index i))
            (cases_lt i head.index),
      )
    where
      ln_in : Option Piece → Option ℕ
      ln_in None = None
      ln_in (Some found) = found.ln

      slice_get_ln : ℕ → Option ℕ
      slice_get_ln n = ln_in (slice_get pieces n)

      ln_of : {n : ℕ} → head.index ≡ n → slice_get_ln n ≡ Some (head.line + 1)
      ln_of same = ap slice_get_ln (sym same) ∙ ap ln_in is.there ∙ is.number

pub StandsBetween-none : (text : List ℕ) (pieces : List Piece) (line low high : ℕ) → ArePieces text pieces → high ≤ low → StandsBetween pieces (line + 1) low high →
    length text ≡ start_of_numbered text line
StandsBetween-none text pieces line low high are past stands =
    head-none text pieces are line (λ has. let were = stands has.index has.piece has.there has.number in let from = were.0 in let to = were.1 in omega arith)

-- the start of a numbered line is in the text
concat-take : (n : ℕ) (lines : List (List ℕ)) → length (concat (take n lines)) ≤ length (concat lines)
concat-take zero lines = omega arith
concat-take (suc n) [] = omega arith
concat-take (suc n) (line ∷ lines) = omega (arith, concat-take n lines, length-append line (concat (take n lines)), length-append line (concat lines))

pub start_of_numbered-inside : (text : List ℕ) (line : ℕ) → start_of_numbered text line ≤ length text
start_of_numbered-inside text line = omega (arith, concat-take line (logical_lines text), ap length (concat-logical_lines text))

-- ---- the walk back to the first piece

-- no piece right of an index and up to the line has a number
pub record IsBare (pieces : List Piece) (line at : ℕ) : Type 0 where
  pub up_to : at ≤ line
  pub bare : (index : ℕ) (other : Piece) → at < index → index ≤ line → slice_get pieces index ≡ Some other → other.ln ≡ None

pub IsBare-line : (pieces : List Piece) (line : ℕ) → IsBare pieces line line
IsBare-line pieces line = record { up_to = omega arith; bare = λ index other past by_then. absurd (omega arith) }

pub IsBare-back : (pieces : List Piece) (line at : ℕ) (piece : Piece) → slice_get pieces at ≡ Some piece → piece.ln ≡ None → IsBare pieces line at → IsBare pieces line (at - 1)
IsBare-back pieces line at piece is none bare = record {
  up_to = let le = bare.up_to in omega arith;
  bare = λ index other past by_then there.
      ⊎_elim
      (λ (right : at < index). bare.bare index other right by_then there)
      (λ (left : index ≤ at).
      let same : at ≡ index = omega arith in
      let one : Some piece ≡ Some other = sym is ∙ ap (slice_get pieces) same ∙ there in
      sym (ap (λ p. (unwrap_or p piece).ln) one) ∙ none)
      (cases_lt at index);
}

pub IsHeadOf-found : (text : List ℕ) (pieces : List Piece) (line n : ℕ) (piece : Piece) (head : Head) → ArePieces text pieces → slice_get pieces head.index ≡ Some piece →
    piece.start ≡ head.start → piece.ln ≡ Some n → head.line ≡ n - 1 → IsBare pieces line head.index → IsHeadOf pieces line head
IsHeadOf-found text pieces line n piece head are there start numbered less bare =
    let some = (head-start text pieces are head.index n piece there numbered).0 in
    let same : n ≡ head.line + 1 = omega arith in
    record { piece = piece; there = there; start = start; number = numbered ∙ ap Some same; up_to = bare.up_to; last = bare.bare }

-- a piece without a number is not the first one
pub numbered-or-later : (text : List ℕ) (pieces : List Piece) → ArePieces text pieces → (at : ℕ) (piece : Piece) → slice_get pieces at ≡ Some piece → piece.ln ≡ None → 0 < at
numbered-or-later text pieces are at piece is none =
    ⊎_elim
    (λ (past : 0 < at). past)
    (λ (first : at ≤ 0).
    let same : at ≡ 0 = omega arith in
    absurd (both_ways (is_some piece.ln) (ap is_some none) (head-first text pieces are piece (ap (slice_get pieces) (sym same) ∙ is))))
    (cases_lt 0 at)
