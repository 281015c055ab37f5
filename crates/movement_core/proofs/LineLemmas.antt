-- The logical line of a layout line, and the layout line's last gap.
use Rattle.std.proofs.Common.{◌≡◌, ◌⊎◌, inl, inr, ℕ, ◌+◌, ◌-◌, ◌<◌, ◌≤◌, List, ◌++◌, length, take, drop, Some, refl, ap, ap₂, ◌∙◌, arith, length-append}
use Rattle.std.specs.Prelude.{slice_get, slice_range}
use Rattle.std.specs.List.{concat}
use Rattle.std.proofs.lemmas.Bool.{cases_lt}
use Rattle.std.proofs.lemmas.List.{take-append-le, take_all}
use Rattle.std.proofs.Math.Seq.{drop-append-add}
use Rattle.std.proofs.lemmas.Option.{slice_get_within}
use Rattle.plain_screen.specs.declared.piece.Piece.{Piece}
use Rattle.plain_screen.specs.View.{ArePieces, layout_line_of, line_under, logical_line_of, start_of}
use Rattle.plain_screen.proofs.callers.ViewLemmas.{ArePieces-starts, IsLayoutLineOf-layout_line_of, IsLogicalLineOf-logical_line_of}
use Rattle.plain_screen.proofs.callers.OwnLemmas.{HasOwn-line, end-last, get_piece, line-before, line-from, piece-within, start_of-get, starts-rise}
use Rattle.movement_core.specs.Lines.{IsLastGap}
use Rattle.movement_core.proofs.PlaceLemmas.{AreParts, AreParts-line, text-is}

-- the logical line that a layout line is of ends within the text
pub under-parts : (text : List ℕ) (pieces : List Piece) (line : ℕ) → AreParts text (line_under text pieces line)
under-parts text pieces line =
    AreParts-line text (start_of pieces line) (line_under text pieces line) (IsLogicalLineOf-logical_line_of text (start_of pieces line))

pub under-le : (text : List ℕ) (pieces : List Piece) (line : ℕ) → (line_under text pieces line).start + length (line_under text pieces line).text ≤ length text
under-le text pieces line =
    let parts = under-parts text pieces line in
    omega (
      arith,
      parts.start,
      ap length (text-is text (line_under text pieces line) parts),
      length-append (concat parts.front) ((line_under text pieces line).text ++ concat parts.back),
      length-append (line_under text pieces line).text (concat parts.back),
    )

pub IsLastGap-last : (text : List ℕ) (pieces : List Piece) (line : ℕ) (piece : Piece) → ArePieces text pieces → line + 1 ≡ length pieces → slice_get pieces line ≡ Some piece →
    IsLastGap text pieces line piece.end
IsLastGap-last text pieces line piece are last is =
    let start = start_of-get pieces line piece is in
    let ordered = piece-within text pieces line piece are is in
    let end = end-last text pieces line piece are last is in record {
      ordered = omega arith;
      inside = omega arith;
      own = λ gap low high.
          let from = line-from text pieces gap line piece are is (omega arith) in
          let inside = (IsLayoutLineOf-layout_line_of text pieces gap are).inside in omega arith;
      only = λ gap inside same. omega arith;
    }

pub IsLastGap-next : (text : List ℕ) (pieces : List Piece) (line : ℕ) (next : Piece) → ArePieces text pieces → slice_get pieces (line + 1) ≡ Some next →
    (0 < next.start) × IsLastGap text pieces line (next.start - 1)
IsLastGap-next text pieces line next are is =
    let there = slice_get_within pieces (line + 1) next is in
    let found = get_piece pieces line (omega arith) in
    let start = start_of-get pieces line found.0 found.1 in
    let rise = starts-rise 0 line (line + 1) pieces found.0 next (ArePieces-starts text pieces are).0 (omega arith) found.1 is in
    let own = HasOwn-line text pieces (line + 1) are there in
    let within = own.2.within (line + 1) next own.2.low own.2.high is in
    let line_end = under-le text pieces (line + 1) in (
      omega arith,
      record {
        ordered = omega arith;
        inside = let one = within.1 in let two = within.2 in omega arith;
        own = λ gap low high.
            let from = line-from text pieces gap line found.0 are found.1 (omega arith) in
            let before = line-before text pieces gap (line + 1) next are is (omega arith) in omega arith;
        only = λ gap inside same.
            elim (cases_lt gap next.start) [
              | inl fine ↦ omega arith
              | inr past ↦ absurd (let from = line-from text pieces gap (line + 1) next are is past in omega arith)
            ];
      },
    )

-- ---- the characters of a logical line

slice-middle : (front line back : List ℕ) (start : ℕ) → start ≡ length front → slice_range (front ++ (line ++ back)) start (start + length line) ≡ line
slice-middle front line back start is =
    let few : start + length line - start ≡ length line = omega arith in
    let at : start ≡ length front + 0 = omega arith in
    ap₂ (λ n xs. take n xs) few (ap (λ n. drop n (front ++ (line ++ back))) at ∙ drop-append-add front (line ++ back) 0) ∙
    take-append-le (length line) line back (omega arith) ∙ take_all (length line) line (omega arith)

pub under-text : (text : List ℕ) (pieces : List Piece) (line : ℕ) →
    slice_range text (line_under text pieces line).start ((line_under text pieces line).start + length (line_under text pieces line).text) ≡ (line_under text pieces line).text
under-text text pieces line =
    let under = line_under text pieces line in
    let parts = under-parts text pieces line in
    ap (λ t. slice_range t under.start (under.start + length under.text)) (text-is text under parts) ∙
    slice-middle (concat parts.front) under.text (concat parts.back) under.start parts.start

-- a gap stands in its logical line: it is left of the line's end, or the line ends with the text
pub under-ahead : (text : List ℕ) (pieces : List Piece) (gap : ℕ) → ArePieces text pieces →
    ((line_under text pieces (layout_line_of pieces gap)).start ≤ start_of pieces (layout_line_of pieces gap)) ×
    (start_of pieces (layout_line_of pieces gap) ≤ gap) ×
    ((gap < (line_under text pieces (layout_line_of pieces gap)).start + length (line_under text pieces (layout_line_of pieces gap)).text) ⊎
    ((line_under text pieces (layout_line_of pieces gap)).start + length (line_under text pieces (layout_line_of pieces gap)).text ≡ length text))
under-ahead text pieces gap are =
    let line = layout_line_of pieces gap in
    let sits = IsLayoutLineOf-layout_line_of text pieces gap are in
    let own = HasOwn-line text pieces line are sits.inside in
    let found = get_piece pieces line sits.inside in
    let start = start_of-get pieces line found.0 found.1 in
    let by_then = sits.by_then found.0 found.1 in
    let within = (own.2.within line found.0 own.2.low own.2.high found.1).0 in
    let inside = own.2.inside in (
      omega arith,
      omega arith,
      elim (cases_lt own.1 (length pieces)) [
        | inl more ↦
            let next = get_piece pieces own.1 more in
            let past = sits.last own.1 next.0 own.2.high next.1 in
            let at = (own.2.next next.0 next.1).0 in inl (omega arith)
        | inr all ↦ let same : own.1 ≡ length pieces = omega arith in inr (own.2.whole same)
      ],
    )

-- and it is the gap's own
pub under-own : (text : List ℕ) (pieces : List Piece) (gap : ℕ) → ArePieces text pieces → logical_line_of text gap ≡ line_under text pieces (layout_line_of pieces gap)
under-own text pieces gap are =
    let sits = IsLayoutLineOf-layout_line_of text pieces gap are in
    (HasOwn-line text pieces (layout_line_of pieces gap) are sits.inside).2.same gap refl

pub under-same : (text : List ℕ) (pieces : List Piece) (line gap : ℕ) → ArePieces text pieces → line < length pieces → layout_line_of pieces gap ≡ line →
    logical_line_of text gap ≡ line_under text pieces line
under-same text pieces line gap are there is = (HasOwn-line text pieces line are there).2.same gap is

-- each layout line has a last gap
pub IsLastGap-some : (text : List ℕ) (pieces : List Piece) (line : ℕ) → ArePieces text pieces → line < length pieces → (last : ℕ) × IsLastGap text pieces line last
IsLastGap-some text pieces line are there = elim (cases_lt (line + 1) (length pieces)) [
  | inl more ↦ let next = get_piece pieces (line + 1) more in (next.0.start - 1, (IsLastGap-next text pieces line next.0 are next.1).1)
  | inr last ↦ let own = get_piece pieces line there in (own.0.end, IsLastGap-last text pieces line own.0 are (omega arith) own.1)
]
