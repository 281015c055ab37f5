-- Cuts: what stands before each of them, how many they are, which of them has a gap, and where those of a logical line begin.
use Rattle.std.proofs.Common.{◌≡◌, ◌⊎◌, inl, inr, ℕ, zero, suc, ◌+◌, ◌-◌, ◌^◌, ◌<◌, ◌≤◌, Bool, true, false, IsTrue, List, [], ◌∷◌, ◌++◌, length, take, drop, Option, Some, None, refl, ap, ap₂, sym, subst, ◌∙◌, arith, append_assoc, length-append, length-drop, take_all}
use Rattle.std.specs.Prelude.{if◌then◌else◌, ◌==◌, cond, unwrap_or, slice_get, slice_range}
use Rattle.std.specs.List.{concat, flat_map, onto_first}
use Rattle.std.specs.Str.{all_scalars}
use Rattle.std.proofs.lemmas.Bool.{lt-ltb, ltb-true}
use Rattle.std.proofs.lemmas.Grind.{flat_map-append}
use Rattle.std.proofs.lemmas.List.{nil_from_length, take-append-le}
use Rattle.std.proofs.lemmas.Option.{slice_get_cases, slice_get_within}
use Rattle.std.proofs.Math.Seq.{drop-append-add, take-append-add, take-append_seam}
use Rattle.plain_text.specs.Lines.{logical_lines}
use Rattle.plain_screen.specs.declared.piece.Piece.{Piece}
use Rattle.plain_screen.specs.View.{AreEnds, ArePieces, RiseTo, layout_line_of}
use Rattle.plain_screen.proofs.callers.ViewLemmas.{IsLayoutLineOf-layout_line_of, IsLayoutLineOf-only, concat-logical_lines}
use Rattle.plain_screen.proofs.callers.OwnLemmas.{slice_get-back, slice_get-front}
use Rattle.line_break.specs.Breaks.{breaks_of}
use Rattle.line_index.specs.declared.cut.Cut.{Cut}
use Rattle.line_index.specs.Cuts.{cuts_from, cuts_of, cuts_of_line, cuts_of_lines, firsts, pieces_at, span}
use Rattle.line_index.specs.Inner.{IsCutAt, RiseFrom}
use Rattle.line_index.specs.Sizes.{firsts-append, is_countable, sizes_of, span-append}
use Rattle.line_index.proofs.LineLemmas.{AreCut, AreCut-text, cuts_of_lines-append}
use Rattle.line_index.proofs.WholeLemmas.{length-logical_lines, lf_count-le}

-- ---- a line is a slice of its text

slice-front : (line back : List ℕ) → take (length line) (line ++ back) ≡ line
slice-front line back = take-append-le (length line) line back (omega arith) ∙ take_all (length line) line (omega arith)

-- the line with this index, of lines that are joined
pub slice-line : (front : List ℕ) (lines : List (List ℕ)) (i : ℕ) (line : List ℕ) → slice_get lines i ≡ Some line →
    slice_range (front ++ concat lines) (length front + length (concat (take i lines))) (length front + length (concat (take (suc i) lines))) ≡ line
slice-line front [] i line is = absurd cc
slice-line front (own ∷ lines) zero line is =
    let same : own ≡ line = ap (λ (o : Option (List ℕ)). unwrap_or o own) is in
    let few : length front + length (own ++ []) - (length front + 0) ≡ length own = omega (arith, length-append own []) in
    ap₂ (λ (n : ℕ) (xs : List ℕ). take n xs) few (drop-append-add front (own ++ concat lines) 0) ∙ slice-front own (concat lines) ∙ same
slice-line front (own ∷ lines) (suc i) line is =
    let at : length front + length (own ++ concat (take i lines)) ≡ length (front ++ own) + length (concat (take i lines)) =
    omega (arith, length-append own (concat (take i lines)), length-append front own) in
    let to : length front + length (own ++ concat (take (suc i) lines)) ≡ length (front ++ own) + length (concat (take (suc i) lines)) =
    omega (arith, length-append own (concat (take (suc i) lines)), length-append front own) in
    ap₂ (λ (a b : ℕ). slice_range (front ++ (own ++ concat lines)) a b) at to ∙
    ap (λ (t : List ℕ). slice_range t (length (front ++ own) + length (concat (take i lines))) (length (front ++ own) + length (concat (take (suc i) lines))))
    (sym (append_assoc front own (concat lines))) ∙
    slice-line (front ++ own) lines i line is

take-more : {X : Type 0} (xs : List X) (n : ℕ) (x : X) → slice_get xs n ≡ Some x → take (suc n) xs ≡ take n xs ++ (x ∷ [])
take-more [] n x is = absurd cc
take-more (own ∷ xs) zero x is = ap (λ y. y ∷ []) (ap (λ o. unwrap_or o own) is)
take-more (own ∷ xs) (suc n) x is = ap (λ ys. own ∷ ys) (take-more xs n x is)

-- some lines from one index on, and the next one
pub slice-more : {X : Type 0} (from : ℕ) (xs : List X) (at : ℕ) (x : X) → from ≤ at → slice_get xs at ≡ Some x →
    slice_range xs from (suc at) ≡ slice_range xs from at ++ (x ∷ [])
slice-more zero xs at x ordered is =
    let now : suc at - 0 ≡ suc at = omega arith in
    let before : at ≡ at - 0 = omega arith in
    ap (λ n. take n xs) now ∙ take-more xs at x is ∙ ap (λ n. take n xs ++ (x ∷ [])) before
slice-more (suc from) [] at x ordered is = absurd cc
slice-more (suc from) (own ∷ xs) zero x ordered is = absurd (omega arith)
slice-more (suc from) (own ∷ xs) (suc at) x ordered is =
    let now : suc (suc at) - suc from ≡ suc at - from = omega arith in
    let before : at - from ≡ suc at - suc from = omega arith in
    ap (λ n. take n (drop from xs)) now ∙ slice-more from xs at x (omega arith) is ∙ ap (λ n. take n (drop from xs) ++ (x ∷ [])) before

-- ---- the cuts of a line: as many characters as the line has, and no more cuts than that and one

rise-le : (len from : ℕ) (ends : List ℕ) → RiseTo len from ends → from ≤ len
rise-le len from [] rise = omega arith
rise-le len from (end ∷ ends) rise = let le = rise-le len end ends rise.1 in let lt = rise.0 in omega arith

span-rise : (first : Bool) (len from : ℕ) (ends : List ℕ) → RiseTo len from ends → from + span (cuts_from first from ends) ≡ len
span-rise first len from [] rise = omega arith
span-rise first len from (end ∷ ends) rise =
    let lt = rise.0 in let le = rise-le len end ends rise.1 in omega (arith, span-rise false len end ends rise.1)

span-line : (len : ℕ) (ends : List ℕ) → AreEnds len ends → span (cuts_from true 0 ends) ≡ len
span-line zero ends are = ap (λ (es : List ℕ). span (cuts_from true 0 es)) are
span-line (suc len) ends are = omega (arith, span-rise true (suc len) 0 ends are)

few-rise : (first : Bool) (len from : ℕ) (ends : List ℕ) → RiseTo len from ends → from + length (cuts_from first from ends) ≤ len
few-rise first len from [] rise = omega arith
few-rise first len from (end ∷ ends) rise = let lt = rise.0 in let less = few-rise false len end ends rise.1 in omega arith

few-line : (len : ℕ) (ends : List ℕ) → AreEnds len ends → length (cuts_from true 0 ends) ≤ len + 1
few-line zero ends are = omega (arith, ap (λ (es : List ℕ). length (cuts_from true 0 es)) are)
few-line (suc len) ends are = omega (arith, few-rise true (suc len) 0 ends are)

-- the ends of a line's pieces as its cuts are made of them
small-rise : (len from : ℕ) (ends : List ℕ) → RiseTo len from ends → len < 2 ^ 63 → RiseFrom from ends
small-rise len from [] rise small = tt
small-rise len from (end ∷ ends) rise small =
    let lt = rise.0 in let le = rise-le len end ends rise.1 in (omega arith, omega arith, small-rise len end ends rise.1 small)

pub RiseFrom-ends : (len : ℕ) (ends : List ℕ) → AreEnds len ends → len < 2 ^ 63 → RiseFrom 0 ends
RiseFrom-ends zero ends are small = subst (RiseFrom 0) (sym are) (omega arith, omega arith, tt)
RiseFrom-ends (suc len) ends are small = small-rise (suc len) 0 ends are small

pub firsts-le : (cuts : List Cut) → firsts cuts ≤ length cuts
firsts-le [] = omega arith
firsts-le (cut ∷ cuts) = omega (arith, firsts-le cuts, one cut.first)
  where
    one : (b : Bool) → cond b 1 0 ≤ 1
    one true = omega arith
    one false = omega arith

-- ---- the cuts of some lines

module _ (width tab : ℕ) where
  pub span-lines : (lines : List (List ℕ)) → AreCut (breaks_of width tab) lines → span (cuts_of_lines width tab lines) ≡ length (concat lines)
  span-lines [] are = refl
  span-lines (line ∷ lines) are =
      omega (
        arith,
        span-append (cuts_of_line width tab line) (cuts_of_lines width tab lines),
        span-line (length line) (breaks_of width tab line) are.0,
        span-lines lines are.1,
        length-append line (concat lines),
      )

  few-lines : (lines : List (List ℕ)) → AreCut (breaks_of width tab) lines → length (cuts_of_lines width tab lines) ≤ length (concat lines) + length lines
  few-lines [] are = omega arith
  few-lines (line ∷ lines) are =
      omega (
        arith,
        length-append (cuts_of_line width tab line) (cuts_of_lines width tab lines),
        few-line (length line) (breaks_of width tab line) are.0,
        few-lines lines are.1,
        length-append line (concat lines),
      )

  -- WHAT THE CUTS OF A TEXT ADD UP TO fits, where the text has fewer than 2^63 characters
  pub sizes-fit : (text : List ℕ) → all_scalars text ≡ true → length text < 2 ^ 63 → IsTrue (is_countable (sizes_of (cuts_of width tab text)))
  sizes-fit text scalars small =
      let are = AreCut-text width tab text scalars in
      lt-ltb _ _ (omega (
        arith,
        span-lines (logical_lines text) are,
        few-lines (logical_lines text) are,
        firsts-le (cuts_of width tab text),
        ap length (concat-logical_lines text),
        length-logical_lines text,
        lf_count-le text,
      ))

-- and so do those of a part
pub part-fits : (xs ys zs : List Cut) → IsTrue (is_countable (sizes_of (xs ++ (ys ++ zs)))) → IsTrue (is_countable (sizes_of ys))
part-fits xs ys zs fit =
    lt-ltb _ _ (omega (
      arith,
      ltb-true _ (2 ^ 64) fit,
      length-append xs (ys ++ zs),
      length-append ys zs,
      firsts-append xs (ys ++ zs),
      firsts-append ys zs,
      span-append xs (ys ++ zs),
      span-append ys zs,
    ))

pub front-fits : (xs ys : List Cut) → IsTrue (is_countable (sizes_of (xs ++ ys))) → IsTrue (is_countable (sizes_of xs))
front-fits xs ys fit = part-fits [] xs ys fit

pub span-small : (cuts : List Cut) → IsTrue (is_countable (sizes_of cuts)) → span cuts < 2 ^ 64
span-small cuts fit = omega (arith, ltb-true _ (2 ^ 64) fit)

-- ---- the piece of a cut, by what stands before it

piece-same : (a b c d n m : ℕ) (first : Bool) → a ≡ c → b ≡ d → n ≡ m →
    (let one : Option Piece = Some (record { start = a; end = b; ln = if first then Some n else None }) in one) ≡
    Some (record { start = c; end = d; ln = if first then Some m else None })
piece-same a b c d n m first p q r = rw (p, q, r) refl

pub piece-at : (number start : ℕ) (cuts : List Cut) (i : ℕ) (cut : Cut) → slice_get cuts i ≡ Some cut →
    slice_get (pieces_at number start cuts) i ≡
    Some (record { start = start + span (take i cuts); end = start + span (take i cuts) + cut.len; ln = if cut.first then Some (number + firsts (take i cuts)) else None })
piece-at number start [] i cut is = absurd cc
piece-at number start (own ∷ cuts) zero cut is =
    let same : own ≡ cut = ap (λ (o : Option Cut). unwrap_or o own) is in
    piece-same start (start + own.len) (start + 0) (start + 0 + own.len) number (number + 0) own.first (omega arith) (omega arith) (omega arith) ∙
    ap (λ (c : Cut). (let one : Option Piece = Some (record { start = start + 0; end = start + 0 + c.len; ln = if c.first then Some (number + 0) else None }) in one)) same
piece-at number start (own ∷ cuts) (suc i) cut is =
    piece-at (number + cond own.first 1 0) (start + own.len) cuts i cut is ∙
    piece-same _ _ (start + (own.len + span (take i cuts))) (start + (own.len + span (take i cuts)) + cut.len) _ (number + (cond own.first 1 0 + firsts (take i cuts)))
    cut.first (omega arith) (omega arith) (omega arith)

pub length-pieces : (number start : ℕ) (cuts : List Cut) → length (pieces_at number start cuts) ≡ length cuts
length-pieces number start [] = refl
length-pieces number start (cut ∷ cuts) = ap (λ (n : ℕ). suc n) (length-pieces (number + cond cut.first 1 0) (start + cut.len) cuts)

start-at : (number start : ℕ) (cuts : List Cut) (i : ℕ) (piece : Piece) → slice_get (pieces_at number start cuts) i ≡ Some piece →
    piece.start ≡ start + span (take i cuts)
start-at number start [] i piece is = absurd cc
start-at number start (own ∷ cuts) zero piece is =
    omega (arith, ap (λ (o : Option Piece). (unwrap_or o piece).start) is)
start-at number start (own ∷ cuts) (suc i) piece is =
    omega (arith, start-at (number + cond own.first 1 0) (start + own.len) cuts i piece is)

-- ---- the piece of a gap

pub span-take : (i j : ℕ) (cuts : List Cut) → i ≤ j → span (take i cuts) ≤ span (take j cuts)
span-take zero j cuts le = omega arith
span-take (suc i) zero cuts le = absurd (omega arith)
span-take (suc i) (suc j) [] le = omega arith
span-take (suc i) (suc j) (cut ∷ cuts) le = omega (arith, span-take i j cuts (omega arith))

-- THE LAYOUT LINE OF A GAP is the last cut that starts by it
pub layout-cut : (text : List ℕ) (pieces : List Piece) (cuts : List Cut) (gap index : ℕ) → ArePieces text pieces → pieces_at 1 0 cuts ≡ pieces →
    IsCutAt cuts gap index → index ≡ layout_line_of pieces gap
layout-cut text pieces cuts gap index are same is =
    let long : length pieces ≡ length cuts = ap length (sym same) ∙ length-pieces 1 0 cuts in
    let inside = is.inside in
    IsLayoutLineOf-only pieces gap index _ (record {
      inside = omega arith;
      by_then = λ piece get.
          let by_then = is.by_then in
          let start = start-at 1 0 cuts index piece (ap (λ (ps : List Piece). slice_get ps index) same ∙ get) in omega arith;
      last = λ later piece past get.
          let start = start-at 1 0 cuts later piece (ap (λ (ps : List Piece). slice_get ps later) same ∙ get) in
          elim is.last [
            | inl before ↦ let more = span-take (index + 1) later cuts (omega arith) in omega arith
            | inr end ↦ absurd (let within = slice_get_within pieces later piece get in omega arith)
          ];
    }) (IsLayoutLineOf-layout_line_of text pieces gap are)

-- ---- a leaf of cuts among all

-- the items of leaves, of which one stands between others
pub leaves-parted : (leaves front back : List (List Cut)) (leaf : List Cut) → leaves ≡ front ++ ((leaf ∷ []) ++ back) →
    flat_map (λ own. own) leaves ≡ flat_map (λ own. own) front ++ (leaf ++ flat_map (λ own. own) back)
leaves-parted leaves front back leaf cut =
    ap (flat_map (λ own. own)) cut ∙ flat_map-append (λ (own : List Cut). own) front ((leaf ∷ []) ++ back)

pub take-parted : (front leaf back : List Cut) (index offset : ℕ) → length front + offset ≡ index → offset ≤ length leaf →
    take index (front ++ (leaf ++ back)) ≡ front ++ take offset leaf
take-parted front leaf back index offset at within =
    ap (λ (n : ℕ). take n (front ++ (leaf ++ back))) (sym at) ∙ take-append-add front (leaf ++ back) offset ∙
    ap (λ (xs : List Cut). front ++ xs) (take-append-le offset leaf back within)

pub get-parted : (front leaf back : List Cut) (index offset : ℕ) → length front + offset ≡ index → offset < length leaf →
    slice_get (front ++ (leaf ++ back)) index ≡ slice_get leaf offset
get-parted front leaf back index offset at within =
    let less : index - length front ≡ offset = omega arith in
    slice_get-back front (leaf ++ back) index (omega arith) ∙ ap (slice_get (leaf ++ back)) less ∙ slice_get-front leaf back offset within

pub span-parted : (front leaf back : List Cut) (index offset : ℕ) → length front + offset ≡ index → offset ≤ length leaf →
    span (take index (front ++ (leaf ++ back))) ≡ span front + span (take offset leaf)
span-parted front leaf back index offset at within =
    ap span (take-parted front leaf back index offset at within) ∙ span-append front (take offset leaf)

-- ---- where the cuts of a logical line begin

-- an empty logical line is the last one
empty-last : (text : List ℕ) (i : ℕ) → slice_get (logical_lines text) i ≡ Some [] → i + 1 ≡ length (logical_lines text)
empty-last [] zero is = refl
empty-last [] (suc i) is = absurd cc
empty-last (c ∷ text) i is = by (c == 10) (logical_lines text) i is (λ j. empty-last text j)
  where
    by : (b : Bool) (lines : List (List ℕ)) (i : ℕ) → slice_get (if b then (c ∷ []) ∷ lines else onto_first c lines) i ≡ Some [] →
        ((j : ℕ) → slice_get lines j ≡ Some [] → j + 1 ≡ length lines) → i + 1 ≡ length (if b then (c ∷ []) ∷ lines else onto_first c lines)
    by true lines zero is rest = absurd (let none : 1 ≡ 0 = ap (λ (o : Option (List ℕ)). length (unwrap_or o (c ∷ []))) is in omega arith)
    by true lines (suc i) is rest = omega (arith, rest i is)
    by false [] zero is rest = absurd (let none : 1 ≡ 0 = ap (λ (o : Option (List ℕ)). length (unwrap_or o (c ∷ []))) is in omega arith)
    by false [] (suc i) is rest = absurd cc
    by false (line ∷ lines) zero is rest =
        absurd (let none : length (c ∷ line) ≡ 0 = ap (λ (o : Option (List ℕ)). length (unwrap_or o (c ∷ line))) is in omega arith)
    by false (line ∷ lines) (suc i) is rest = rest (suc i) is

-- the lines before one, that line and those after it
parted : {X : Type 0} (xs : List X) (i : ℕ) (x : X) → slice_get xs i ≡ Some x → xs ≡ take i xs ++ (x ∷ drop (suc i) xs)
parted [] i x is = absurd cc
parted (own ∷ xs) zero x is = ap (λ y. y ∷ xs) (ap (λ o. unwrap_or o own) is)
parted (own ∷ xs) (suc i) x is = ap (λ ys. own ∷ ys) (parted xs i x is)

some-line : (len : ℕ) (ends : List ℕ) → AreEnds len ends → (end : ℕ) × (rest : List ℕ) × (ends ≡ end ∷ rest) × (((len ≡ 0) × (rest ≡ [])) ⊎ (0 < end))
some-line zero ends are = (0, [], are, inl (refl, refl))
some-line (suc len) [] are = absurd (let none : 0 ≡ suc len = are in omega arith)
some-line (suc len) (end ∷ ends) are = (end, ends, refl, inr are.0)

pub AreCut-get : (ends_of : List ℕ → List ℕ) (lines : List (List ℕ)) (i : ℕ) (line : List ℕ) → AreCut ends_of lines → slice_get lines i ≡ Some line →
    AreEnds (length line) (ends_of line)
AreCut-get ends_of [] i line are is = absurd cc
AreCut-get ends_of (own ∷ lines) zero line are is =
    let same : own ≡ line = ap (λ (o : Option (List ℕ)). unwrap_or o own) is in
    subst (λ (l : List ℕ). AreEnds (length l) (ends_of l)) same are.0
AreCut-get ends_of (own ∷ lines) (suc i) line are is = AreCut-get ends_of lines i line are.1 is

AreCut-take : (ends_of : List ℕ → List ℕ) (n : ℕ) (lines : List (List ℕ)) → AreCut ends_of lines → AreCut ends_of (take n lines)
AreCut-take ends_of zero lines are = tt
AreCut-take ends_of (suc n) [] are = tt
AreCut-take ends_of (suc n) (line ∷ lines) are = (are.0, AreCut-take ends_of n lines are.1)

module _ (width tab : ℕ) where
  -- THE CUT AT WHICH A LOGICAL LINE BEGINS is the one of the gap where that line starts
  pub IsCutAt-line : (text : List ℕ) (index : ℕ) → all_scalars text ≡ true → index < length (logical_lines text) →
      IsCutAt (cuts_of width tab text) (length (concat (take index (logical_lines text)))) (length (cuts_of_lines width tab (take index (logical_lines text))))
  IsCutAt-line text index scalars inside = elim (slice_get_cases (logical_lines text) index).1 [
    | inl found ↦ by found.0 found.2
    | inr outside ↦ absurd (let past = outside.0 in omega arith)
  ]
    where
      lines : List (List ℕ)
      lines = logical_lines text

      front : List Cut
      front = cuts_of_lines width tab (take index lines)

      are : AreCut (breaks_of width tab) lines
      are = AreCut-text width tab text scalars

      before : span front ≡ length (concat (take index lines))
      before = span-lines width tab (take index lines) (AreCut-take (breaks_of width tab) index lines are)

      with_ends : (line : List ℕ) (end : ℕ) (rest : List ℕ) (back : List Cut) → breaks_of width tab line ≡ end ∷ rest →
          cuts_of width tab text ≡ front ++ (cuts_of_line width tab line ++ back) →
          ((0 < end) ⊎ (length front + 1 ≡ length (cuts_of width tab text))) →
          IsCutAt (cuts_of width tab text) (length (concat (take index lines))) (length front)
      with_ends line end rest back ends whole which =
          let first : Cut = record { len = end - 0; first = true } in
          let all : cuts_of width tab text ≡ front ++ ((first ∷ cuts_from false end rest) ++ back) =
          whole ∙ ap (λ (es : List ℕ). front ++ (cuts_from true 0 es ++ back)) ends in
          let one : length (first ∷ cuts_from false end rest) ≡ suc (length (cuts_from false end rest)) = refl in
          record {
            inside = omega (arith, ap length all, length-append front ((first ∷ cuts_from false end rest) ++ back), length-append (first ∷ cuts_from false end rest) back);
            by_then =
                let same : take (length front) (cuts_of width tab text) ≡ front = ap (take (length front)) all ∙ take-append_seam front _ in
                omega (arith, ap span same, before);
            last = elim which [
              | inl some ↦ inl (omega (
                arith,
                ap (λ (cuts : List Cut). span (take (length front + 1) cuts)) all,
                span-parted front (first ∷ cuts_from false end rest) back (length front + 1) 1 refl (omega arith),
                before,
              ))
              | inr end_of ↦ inr end_of
            ];
          }

      by : (line : List ℕ) → slice_get lines index ≡ Some line → IsCutAt (cuts_of width tab text) (length (concat (take index lines))) (length front)
      by line is =
          let ends = some-line (length line) (breaks_of width tab line) (AreCut-get (breaks_of width tab) lines index line are is) in
          let back : List Cut = cuts_of_lines width tab (drop (suc index) lines) in
          let whole : cuts_of width tab text ≡ front ++ (cuts_of_line width tab line ++ back) =
          ap (cuts_of_lines width tab) (parted lines index line is) ∙ cuts_of_lines-append width tab (take index lines) (line ∷ drop (suc index) lines) in
          elim ends.3 [
            | inl none ↦
                let empty : line ≡ [] = nil_from_length line none.0 in
                let last : index + 1 ≡ length lines = empty-last text index (is ∙ ap (λ (l : List ℕ). Some l) empty) in
                let nothing : drop (suc index) lines ≡ [] = nil_from_length (drop (suc index) lines) (omega (arith, length-drop (suc index) lines)) in
                with_ends line ends.0 ends.1 back ends.2 whole (inr (omega (
                  arith,
                  ap length whole,
                  length-append front (cuts_of_line width tab line ++ back),
                  length-append (cuts_of_line width tab line) back,
                  ap (λ (es : List ℕ). length (cuts_from true 0 es)) ends.2,
                  ap (λ (es : List ℕ). length (cuts_from false ends.0 es)) none.1,
                  ap (λ (ls : List (List ℕ)). length (cuts_of_lines width tab ls)) nothing,
                )))
            | inr some ↦ with_ends line ends.0 ends.1 back ends.2 whole (inl some)
          ]
