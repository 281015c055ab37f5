-- The pieces of a logical line among those of a text, and from a piece to the ends of its line.
use Rattle.std.proofs.Common.{◌≡◌, ◌≢◌, ◌⊎◌, inl, inr, ℕ, zero, suc, ◌+◌, ◌-◌, ◌<◌, ◌≤◌, Bool, true, false, List, [], ◌∷◌, ◌++◌, length, Option, Some, None, refl, sym, ap, subst, ◌∙◌, arith, append_assoc, length-append}
use Rattle.std.specs.Prelude.{if◌then◌else◌, is_some, unwrap_or, slice_get}
use Rattle.std.specs.List.{AllByRecursion, concat}
use Rattle.std.proofs.lemmas.Bool.{both_ways, cases_lt, le-ltb, lt-ltb}
use Rattle.std.proofs.lemmas.List.{nil_from_length}
use Rattle.std.proofs.lemmas.Option.{slice_get_cases, slice_get_within}
use Rattle.plain_text.specs.Lines.{logical_lines}
use Rattle.plain_screen.specs.declared.piece.Piece.{Piece}
use Rattle.plain_screen.specs.View.{RiseTo, AreEnds, ArePieces, IsLayoutLineOf, LogicalLine, layout_line_of, line_under, logical_line_from, logical_line_of, pieces_of_line, pieces_from, start_of}
use Rattle.plain_screen.proofs.callers.ViewLemmas.{ArePieces-starts, IsLayoutLineOf-layout_line_of, IsLayoutLineOf-only, StartsFrom, concat-logical_lines, lines_of, logical_lines-some}

-- ---- where layout lines start

-- a later piece starts after an earlier one
pub starts_after : (low i : ℕ) (pieces : List Piece) (piece : Piece) → StartsFrom low pieces → slice_get pieces i ≡ Some piece → low ≤ piece.start
starts_after low i [] piece starts is = absurd cc
starts_after low zero (first ∷ pieces) piece starts is =
    let same : first ≡ piece = ap (λ o. unwrap_or o first) is in subst (λ (p : Piece). low ≤ p.start) same starts.0
starts_after low (suc i) (first ∷ pieces) piece starts is =
    let le = starts.0 in let more = starts_after (first.start + 1) i pieces piece starts.1 is in omega arith

pub starts-rise : (low i j : ℕ) (pieces : List Piece) (piece other : Piece) → StartsFrom low pieces → i < j → slice_get pieces i ≡ Some piece →
    slice_get pieces j ≡ Some other → piece.start < other.start
starts-rise low i j [] piece other starts lt is too = absurd cc
starts-rise low zero zero (first ∷ pieces) piece other starts lt is too = absurd (omega arith)
starts-rise low zero (suc j) (first ∷ pieces) piece other starts lt is too =
    let same : first ≡ piece = ap (λ o. unwrap_or o first) is in
    let more = starts_after (first.start + 1) j pieces other starts.1 too in
    subst (λ (p : Piece). p.start < other.start) same (omega arith)
starts-rise low (suc i) zero (first ∷ pieces) piece other starts lt is too = absurd (omega arith)
starts-rise low (suc i) (suc j) (first ∷ pieces) piece other starts lt is too =
    starts-rise (first.start + 1) i j pieces piece other starts.1 (omega arith) is too

pub start_of-get : (pieces : List Piece) (i : ℕ) (piece : Piece) → slice_get pieces i ≡ Some piece → start_of pieces i ≡ piece.start
start_of-get [] i piece is = absurd cc
start_of-get (first ∷ pieces) zero piece is = ap (λ o. (unwrap_or o first).start) is
start_of-get (first ∷ pieces) (suc i) piece is = start_of-get pieces i piece is

-- THE START OF A LAYOUT LINE belongs to it
pub layout_line_of-start : (text : List ℕ) (pieces : List Piece) (line : ℕ) → ArePieces text pieces → line < length pieces →
    layout_line_of pieces (start_of pieces line) ≡ line
layout_line_of-start text pieces line are inside = elim (slice_get_cases pieces line).1 [
  | inl found ↦
      let start = start_of-get pieces line found.0 found.2 in
      IsLayoutLineOf-only pieces (start_of pieces line) _ line (IsLayoutLineOf-layout_line_of text pieces (start_of pieces line) are) (record {
        inside = inside;
        by_then = λ piece is. let same = start_of-get pieces line piece is in omega arith;
        last = λ later piece past is.
            let lt = starts-rise 0 line later pieces found.0 piece (ArePieces-starts text pieces are).0 past found.2 is in omega arith;
      })
  | inr outside ↦ absurd (let past = outside.0 in omega arith)
]

-- ---- the pieces of a logical line

-- the first of these pieces starts here, and has a number
abbrev pub StartsLine : ℕ → List Piece → Type 0
StartsLine at [] = ⊥
StartsLine at (piece ∷ pieces) = (piece.start ≡ at) × (is_some piece.ln ≡ true)

StartsLine-cuts : (number start : ℕ) (cut : List ℕ × List ℕ) (cuts : List (List ℕ × List ℕ)) →
    AllByRecursion (λ (line, ends). AreEnds (length line) ends) (cut ∷ cuts) → StartsLine start (pieces_from number start (cut ∷ cuts))
StartsLine-cuts number start ([], ends) cuts are =
    let At : List ℕ → Type 0 = λ es. StartsLine start (pieces_from number start (([], es) ∷ cuts)) in subst At (sym are.0) (omega arith, refl)
StartsLine-cuts number start (c ∷ line, []) cuts are = absurd (let zero_is_long = are.0 in omega arith)
StartsLine-cuts number start (c ∷ line, end ∷ ends) cuts are = (omega arith, refl)

some_pieces : (at : ℕ) (pieces : List Piece) → StartsLine at pieces → pieces ≡ [] → ⊥
some_pieces at [] starts none = starts
some_pieces at (piece ∷ pieces) starts none = cc

-- THE PIECES OF THE LOGICAL LINE of a gap among those of lines of which the first has this index and start
pub record IsOwnOf (index start gap : ℕ) (lines : List (List ℕ)) (pieces : List Piece) (line : LogicalLine) : Type 0 where
  pub front : List Piece
  pub own : List Piece
  pub back : List Piece
  pub number : ℕ
  pub ends : List ℕ
  pub parts : pieces ≡ front ++ (own ++ back)
  pub is : own ≡ pieces_of_line line.start (Some number) 0 ends
  pub are : AreEnds (length line.text) ends
  pub from : start ≤ line.start
  pub by_then : line.start ≤ gap
  pub after : (back ≡ []) ⊎ StartsLine (line.start + length line.text) back
  pub last : (back ≡ []) ⊎ (gap < line.start + length line.text)
  pub whole : back ≡ [] → line.start + length line.text ≡ start + length (concat lines)
  pub same : (other : ℕ) → line.start ≤ other → (back ≡ []) ⊎ (other < line.start + length line.text) → logical_line_from index start other lines ≡ line

IsOwnOf-cuts : (index number start gap : ℕ) (cuts : List (List ℕ × List ℕ)) → (cuts ≡ [] → ⊥) → AllByRecursion (λ (line, ends). AreEnds (length line) ends) cuts →
    start ≤ gap → IsOwnOf index start gap (lines_of cuts) (pieces_from number start cuts) (logical_line_from index start gap (lines_of cuts))
IsOwnOf-cuts index number start gap [] some are le = absurd (some refl)
IsOwnOf-cuts index number start gap ((line, ends) ∷ []) some are le = record {
  front = [];
  own = pieces_of_line start (Some number) 0 ends;
  back = [];
  number = number;
  ends = ends;
  parts = refl;
  is = refl;
  are = are.0;
  from = omega arith;
  by_then = le;
  after = inl refl;
  last = inl refl;
  whole = λ none. omega (arith, length-append line []);
  same = λ other low which. refl;
}
IsOwnOf-cuts index number start gap ((line, ends) ∷ next ∷ cuts) some are le =
    let At : Bool → Type 0 = λ b. IsOwnOf index start gap (lines_of ((line, ends) ∷ next ∷ cuts)) (pieces_from number start ((line, ends) ∷ next ∷ cuts))
    (if b then record { index = index; start = start; text = line } else logical_line_from (index + 1) (start + length line) gap (lines_of (next ∷ cuts))) in
    elim (cases_lt gap (start + length line)) [
      | inl before ↦ subst At (sym (lt-ltb gap (start + length line) before)) (here before)
      | inr past ↦ subst At (sym (le-ltb gap (start + length line) past))
          (later (IsOwnOf-cuts (index + 1) (number + 1) (start + length line) gap (next ∷ cuts) (λ none. cc) are.1 past))
    ]
  where
    rest : ℕ → LogicalLine
    rest other = logical_line_from (index + 1) (start + length line) other (lines_of (next ∷ cuts))

    more : StartsLine (start + length line) (pieces_from (number + 1) (start + length line) (next ∷ cuts))
    more = StartsLine-cuts (number + 1) (start + length line) next cuts are.1

    here : gap < start + length line → IsOwnOf index start gap (lines_of ((line, ends) ∷ next ∷ cuts)) (pieces_from number start ((line, ends) ∷ next ∷ cuts))
        (record { index = index; start = start; text = line })
    here before = record {
      front = [];
      own = pieces_of_line start (Some number) 0 ends;
      back = pieces_from (number + 1) (start + length line) (next ∷ cuts);
      number = number;
      ends = ends;
      parts = refl;
      is = refl;
      are = are.0;
      from = omega arith;
      by_then = le;
      after = inr more;
      last = inr before;
      whole = λ none. absurd (some_pieces _ _ more none);
      same = λ other low which. elim which [
        | inl none ↦ absurd (some_pieces _ _ more none)
        | inr less ↦ ap (λ b. if b then record { index = index; start = start; text = line } else rest other) (lt-ltb other (start + length line) less)
      ];
    }

    later : IsOwnOf (index + 1) (start + length line) gap (lines_of (next ∷ cuts)) (pieces_from (number + 1) (start + length line) (next ∷ cuts)) (rest gap) →
        IsOwnOf index start gap (lines_of ((line, ends) ∷ next ∷ cuts)) (pieces_from number start ((line, ends) ∷ next ∷ cuts)) (rest gap)
    later known =
        let from = known.from in record {
          front = pieces_of_line start (Some number) 0 ends ++ known.front;
          own = known.own;
          back = known.back;
          number = known.number;
          ends = known.ends;
          parts = ap (λ ps. pieces_of_line start (Some number) 0 ends ++ ps) known.parts ∙ sym (append_assoc (pieces_of_line start (Some number) 0 ends) known.front (known.own ++ known.back));
          is = known.is;
          are = known.are;
          from = omega arith;
          by_then = known.by_then;
          after = known.after;
          last = known.last;
          whole = λ none. omega (arith, known.whole none, length-append line (concat (lines_of (next ∷ cuts))));
          same = λ other low which.
              ap (λ b. if b then record { index = index; start = start; text = line } else rest other) (le-ltb other (start + length line) (omega arith)) ∙
              known.same other low which;
        }

-- ---- the pieces of one line, by their indices

-- the ends rise, or stay, up to the last one, which is `len`
abbrev EndAt : ℕ → ℕ → List ℕ → Type 0
EndAt len from [] = from ≡ len
EndAt len from (end ∷ ends) = (from ≤ end) × EndAt len end ends

EndAt-rise : (len from : ℕ) (ends : List ℕ) → RiseTo len from ends → EndAt len from ends
EndAt-rise len from [] rise = rise
EndAt-rise len from (end ∷ ends) rise = (let lt = rise.0 in omega arith, EndAt-rise len end ends rise.1)

EndAt-le : (len from : ℕ) (ends : List ℕ) → EndAt len from ends → from ≤ len
EndAt-le len from [] rise = omega arith
EndAt-le len from (end ∷ ends) rise = let le = EndAt-le len end ends rise.1 in let lt = rise.0 in omega arith

pub EndAt-ends : (len : ℕ) (ends : List ℕ) → AreEnds len ends → EndAt len 0 ends × (ends ≢ [])
EndAt-ends zero ends are =
    let At : List ℕ → Type 0 = λ es. EndAt 0 0 es × (es ≢ []) in subst At (sym are) ((omega arith, refl), λ none. cc)
EndAt-ends (suc len) [] are = absurd (let zero_is_long = are in omega arith)
EndAt-ends (suc len) (end ∷ ends) are = (EndAt-rise (suc len) 0 (end ∷ ends) are, λ none. cc)

pub the_first : (first piece : Piece) (pieces : List Piece) → slice_get (first ∷ pieces) 0 ≡ Some piece → first ≡ piece
the_first first piece pieces is = ap (λ o. unwrap_or o first) is

own-within : (start len : ℕ) (ln : Option ℕ) (from : ℕ) (ends : List ℕ) (k : ℕ) (piece : Piece) → EndAt len from ends →
    slice_get (pieces_of_line start ln from ends) k ≡ Some piece → (start + from ≤ piece.start) × (piece.start ≤ piece.end) × (piece.end ≤ start + len)
own-within start len ln from [] k piece rise is = absurd cc
own-within start len ln from (end ∷ ends) zero piece rise is =
    let le = rise.0 in
    let high = EndAt-le len end ends rise.1 in
    let At : Piece → Type 0 = λ p. (start + from ≤ p.start) × (p.start ≤ p.end) × (p.end ≤ start + len) in
    subst At (the_first _ piece (pieces_of_line start None end ends) is) (omega arith, omega arith, omega arith)
own-within start len ln from (end ∷ ends) (suc k) piece rise is =
    let le = rise.0 in
    let more = own-within start len None end ends k piece rise.1 is in
    let low = more.0 in (omega arith, more.1, more.2)

own-later : (start : ℕ) (from : ℕ) (ends : List ℕ) (k : ℕ) (piece : Piece) → slice_get (pieces_of_line start None from ends) k ≡ Some piece → is_some piece.ln ≡ false
own-later start from [] k piece is = absurd cc
own-later start from (end ∷ ends) zero piece is =
    let At : Piece → Type 0 = λ p. is_some p.ln ≡ false in subst At (the_first _ piece (pieces_of_line start None end ends) is) refl
own-later start from (end ∷ ends) (suc k) piece is = own-later start end ends k piece is

own-first : (start number : ℕ) (ends : List ℕ) (piece : Piece) → slice_get (pieces_of_line start (Some number) 0 ends) 0 ≡ Some piece →
    (piece.start ≡ start) × (is_some piece.ln ≡ true)
own-first start number [] piece is = absurd cc
own-first start number (end ∷ ends) piece is =
    let At : Piece → Type 0 = λ p. (p.start ≡ start) × (is_some p.ln ≡ true) in
    subst At (the_first _ piece (pieces_of_line start None end ends) is) (omega arith, refl)

pub own-rest : (start number : ℕ) (ends : List ℕ) (k : ℕ) (piece : Piece) → 0 < k → slice_get (pieces_of_line start (Some number) 0 ends) k ≡ Some piece →
    is_some piece.ln ≡ false
own-rest start number [] k piece past is = absurd cc
own-rest start number (end ∷ ends) zero piece past is = absurd (omega arith)
own-rest start number (end ∷ ends) (suc k) piece past is = own-later start end ends k piece is

own-last : (start len : ℕ) (ln : Option ℕ) (from : ℕ) (ends : List ℕ) (k : ℕ) (piece : Piece) → EndAt len from ends →
    k + 1 ≡ length (pieces_of_line start ln from ends) → slice_get (pieces_of_line start ln from ends) k ≡ Some piece → piece.end ≡ start + len
own-last start len ln from [] k piece rise last is = absurd cc
own-last start len ln from (end ∷ []) zero piece rise last is =
    let all = rise.1 in
    let At : Piece → Type 0 = λ p. p.end ≡ start + len in subst At (the_first _ piece [] is) (omega arith)
own-last start len ln from (end ∷ []) (suc k) piece rise last is = absurd (omega arith)
own-last start len ln from (end ∷ next ∷ ends) zero piece rise last is = absurd (omega arith)
own-last start len ln from (end ∷ next ∷ ends) (suc k) piece rise last is =
    own-last start len None end (next ∷ ends) k piece rise.1 (omega arith) is

pub slice_get-back : {X : Type 0} (xs ys : List X) (i : ℕ) → length xs ≤ i → slice_get (xs ++ ys) i ≡ slice_get ys (i - length xs)
slice_get-back [] ys i le = let same : i ≡ i - 0 = omega arith in ap (slice_get ys) same
slice_get-back (x ∷ xs) ys zero le = absurd (omega arith)
slice_get-back (x ∷ xs) ys (suc i) le =
    let same : i - length xs ≡ suc i - length (x ∷ xs) = omega arith in slice_get-back xs ys i (omega arith) ∙ ap (slice_get ys) same

pub slice_get-front : {X : Type 0} (xs ys : List X) (i : ℕ) → i < length xs → slice_get (xs ++ ys) i ≡ slice_get xs i
slice_get-front [] ys i lt = absurd (omega arith)
slice_get-front (x ∷ xs) ys zero lt = refl
slice_get-front (x ∷ xs) ys (suc i) lt = slice_get-front xs ys i (omega arith)

first_starts : (at : ℕ) (pieces : List Piece) (piece : Piece) → StartsLine at pieces → slice_get pieces 0 ≡ Some piece → (piece.start ≡ at) × (is_some piece.ln ≡ true)
first_starts at [] piece starts is = absurd starts
first_starts at (first ∷ pieces) piece starts is =
    let At : Piece → Type 0 = λ p. (p.start ≡ at) × (is_some p.ln ≡ true) in subst At (the_first first piece pieces is) starts

pub length-some : {X : Type 0} (xs : List X) → xs ≢ [] → 0 < length xs
length-some [] some = absurd (some refl)
length-some (x ∷ xs) some = omega arith

pub length-own : (start : ℕ) (ln : Option ℕ) (from : ℕ) (ends : List ℕ) → length (pieces_of_line start ln from ends) ≡ length ends
length-own start ln from [] = refl
length-own start ln from (end ∷ ends) = omega (arith, length-own start None end ends)

-- THE PIECES OF THE LOGICAL LINE that a layout line is of, by their indices
pub record HasOwn (text : List ℕ) (pieces : List Piece) (line first past : ℕ) : Type 0 where
  pub low : first ≤ line
  pub high : line < past
  pub inside : past ≤ length pieces
  pub start : (piece : Piece) → slice_get pieces first ≡ Some piece → (piece.start ≡ (line_under text pieces line).start) × (is_some piece.ln ≡ true)
  pub rest : (i : ℕ) (piece : Piece) → first < i → i < past → slice_get pieces i ≡ Some piece → is_some piece.ln ≡ false
  pub within : (i : ℕ) (piece : Piece) → first ≤ i → i < past → slice_get pieces i ≡ Some piece →
      ((line_under text pieces line).start ≤ piece.start) × (piece.start ≤ piece.end) ×
      (piece.end ≤ (line_under text pieces line).start + length (line_under text pieces line).text)
  pub end : (i : ℕ) (piece : Piece) → i + 1 ≡ past → slice_get pieces i ≡ Some piece →
      piece.end ≡ (line_under text pieces line).start + length (line_under text pieces line).text
  pub next : (piece : Piece) → slice_get pieces past ≡ Some piece →
      (piece.start ≡ (line_under text pieces line).start + length (line_under text pieces line).text) × (is_some piece.ln ≡ true)
  pub whole : past ≡ length pieces → (line_under text pieces line).start + length (line_under text pieces line).text ≡ length text
  pub same : (gap : ℕ) → layout_line_of pieces gap ≡ line → logical_line_of text gap ≡ line_under text pieces line

pub no_cuts : (text : List ℕ) (cuts : List (List ℕ × List ℕ)) → lines_of cuts ≡ logical_lines text → cuts ≡ [] → ⊥
no_cuts text cuts are none = logical_lines-some text (sym are ∙ ap lines_of none)

pub get_piece : (pieces : List Piece) (i : ℕ) → i < length pieces → (piece : Piece) × (slice_get pieces i ≡ Some piece)
get_piece pieces i inside = elim (slice_get_cases pieces i).1 [
  | inl found ↦ (found.0, found.2)
  | inr outside ↦ absurd (let past = outside.0 in omega arith)
]

IsOwnOf-text : (text : List ℕ) (pieces : List Piece) (gap : ℕ) → ArePieces text pieces → IsOwnOf 0 0 gap (logical_lines text) pieces (logical_line_of text gap)
IsOwnOf-text text pieces gap are =
    let known = IsOwnOf-cuts 0 1 0 gap are.cuts (no_cuts text are.cuts are.lines) are.ends (omega arith) in
    subst (λ ps. IsOwnOf 0 0 gap (logical_lines text) ps (logical_line_of text gap)) (sym are.is)
    (subst (λ ls. IsOwnOf 0 0 gap ls (pieces_from 1 0 are.cuts) (logical_line_from 0 0 gap ls)) are.lines known)

module _ (text : List ℕ) (pieces : List Piece) (line : ℕ) (are : ArePieces text pieces) (there : line < length pieces) where
  abbrev under : LogicalLine
  under = line_under text pieces line

  known : IsOwnOf 0 0 (start_of pieces line) (logical_lines text) pieces under
  known = IsOwnOf-text text pieces (start_of pieces line) are

  abbrev first : ℕ
  first = length known.front

  abbrev past : ℕ
  past = length known.front + length known.own

  sits : (gap : ℕ) → layout_line_of pieces gap ≡ line → IsLayoutLineOf pieces gap line
  sits gap is = subst (IsLayoutLineOf pieces gap) is (IsLayoutLineOf-layout_line_of text pieces gap are)

  starts : layout_line_of pieces (start_of pieces line) ≡ line
  starts = layout_line_of-start text pieces line are there

  long : length pieces ≡ past + length known.back
  long = omega (arith, ap length known.parts, length-append known.front (known.own ++ known.back), length-append known.own known.back)

  ends_are : EndAt (length under.text) 0 known.ends × (known.ends ≢ [])
  ends_are = EndAt-ends (length under.text) known.ends known.are

  some_own : 0 < length known.own
  some_own = omega (arith, ap length known.is, length-own under.start (Some known.number) 0 known.ends, length-some known.ends ends_are.1)

  at_own : (i : ℕ) → first ≤ i → i < past → slice_get pieces i ≡ slice_get (pieces_of_line under.start (Some known.number) 0 known.ends) (i - first)
  at_own i low high =
      ap (λ ps. slice_get ps i) known.parts ∙ slice_get-back known.front (known.own ++ known.back) i low ∙
      slice_get-front known.own known.back (i - length known.front) (omega arith) ∙ ap (λ ps. slice_get ps (i - first)) known.is

  at_back : slice_get pieces past ≡ slice_get known.back 0
  at_back =
      let none : past - length known.front - length known.own ≡ 0 = omega arith in
      ap (λ ps. slice_get ps past) known.parts ∙ slice_get-back known.front (known.own ++ known.back) past (omega arith) ∙
      slice_get-back known.own known.back (past - length known.front) (omega arith) ∙ ap (slice_get known.back) none

  first-is : (piece : Piece) → slice_get pieces first ≡ Some piece → (piece.start ≡ under.start) × (is_some piece.ln ≡ true)
  first-is piece is =
      let none : first - first ≡ 0 = omega arith in
      own-first under.start known.number known.ends piece
      (sym (ap (slice_get (pieces_of_line under.start (Some known.number) 0 known.ends)) none) ∙ sym (at_own first (omega arith) (let some = some_own in omega arith)) ∙ is)

  next-is : (piece : Piece) → slice_get pieces past ≡ Some piece → (piece.start ≡ under.start + length under.text) × (is_some piece.ln ≡ true)
  next-is piece is = elim known.after [
    | inl none ↦ absurd (let lt = slice_get_within pieces past piece is in let whole = long in omega (arith, ap length none))
    | inr starting ↦ first_starts (under.start + length under.text) known.back piece starting (sym at_back ∙ is)
  ]

  within-is : (i : ℕ) (piece : Piece) → first ≤ i → i < past → slice_get pieces i ≡ Some piece →
      (under.start ≤ piece.start) × (piece.start ≤ piece.end) × (piece.end ≤ under.start + length under.text)
  within-is i piece low high is =
      let all = own-within under.start (length under.text) (Some known.number) 0 known.ends (i - first) piece ends_are.0 (sym (at_own i low high) ∙ is) in
      let le = all.0 in (omega arith, all.1, all.2)

  low-is : first ≤ line
  low-is = elim (cases_lt line first) [
    | inl before ↦ absurd (let some = some_own in let whole = long in
        let found = get_piece pieces first (omega arith) in
        let lt = (sits (start_of pieces line) starts).last first found.0 before found.1 in
        let at = (first-is found.0 found.1).0 in let by_then = known.by_then in omega arith)
    | inr fine ↦ fine
  ]

  high-is : line < past
  high-is = elim (cases_lt line past) [
    | inl fine ↦ fine
    | inr beyond ↦ absurd (elim known.last [
      | inl none ↦ let whole = long in omega (arith, ap length none)
      | inr less ↦
          let whole = long in
          let own = get_piece pieces line there in
          let own_start = start_of-get pieces line own.0 own.1 in
          let next = get_piece pieces past (omega arith) in
          let at = (next-is next.0 next.1).0 in
          elim (cases_lt past line) [
            | inl lt ↦ let rise = starts-rise 0 past line pieces next.0 own.0 (ArePieces-starts text pieces are).0 lt next.1 own.1 in omega arith
            | inr ge ↦
                let same : past ≡ line = omega arith in
                let one : start_of pieces past ≡ start_of pieces line = ap (start_of pieces) same in
                let next_start = start_of-get pieces past next.0 next.1 in omega arith
          ]
    ])
  ]

  pub HasOwn-line : (first : ℕ) × (past : ℕ) × HasOwn text pieces line first past
  HasOwn-line = (
    first,
    past,
    record {
      low = low-is;
      high = high-is;
      inside = let whole = long in omega arith;
      start = first-is;
      rest = λ i piece low high is.
          own-rest under.start known.number known.ends (i - first) piece (omega arith) (sym (at_own i (omega arith) high) ∙ is);
      within = within-is;
      end = λ i piece last is.
          own-last under.start (length under.text) (Some known.number) 0 known.ends (i - first) piece ends_are.0
          (let some = some_own in omega (arith, ap length known.is)) (sym (at_own i (let some = some_own in omega arith) (omega arith)) ∙ is);
      next = next-is;
      whole = λ all.
          let whole = long in
          let none : known.back ≡ [] = nil_from_length known.back (omega arith) in
          omega (arith, known.whole none, ap length (concat-logical_lines text));
      same = λ gap is.
          let own = get_piece pieces line there in
          let by_then = (sits gap is).by_then own.0 own.1 in
          let low = (within-is line own.0 low-is high-is own.1).0 in
          known.same gap (omega arith) (elim known.after [
            | inl none ↦ inl none
            | inr starting ↦
                let whole = long in
                let some = length-some known.back (some_pieces _ known.back starting) in
                let next = get_piece pieces past (omega arith) in
                let at = (next-is next.0 next.1).0 in
                let less = (sits gap is).last past next.0 high-is next.1 in inr (omega arith)
          ]);
    },
  )

-- ---- the search for a layout line, and its gaps

pub line-from : (text : List ℕ) (pieces : List Piece) (gap middle : ℕ) (piece : Piece) → ArePieces text pieces → slice_get pieces middle ≡ Some piece →
    piece.start ≤ gap → middle ≤ layout_line_of pieces gap
line-from text pieces gap middle piece are is by_then = elim (cases_lt (layout_line_of pieces gap) middle) [
  | inl before ↦ absurd (let past = (IsLayoutLineOf-layout_line_of text pieces gap are).last middle piece before is in omega arith)
  | inr fine ↦ fine
]

pub line-before : (text : List ℕ) (pieces : List Piece) (gap middle : ℕ) (piece : Piece) → ArePieces text pieces → slice_get pieces middle ≡ Some piece →
    gap < piece.start → layout_line_of pieces gap < middle
line-before text pieces gap middle piece are is past = elim (cases_lt (layout_line_of pieces gap) middle) [
  | inl fine ↦ fine
  | inr reached ↦
      let own = IsLayoutLineOf-layout_line_of text pieces gap are in
      let found = get_piece pieces (layout_line_of pieces gap) own.inside in
      let by_then = own.by_then found.0 found.1 in
      elim (cases_lt middle (layout_line_of pieces gap)) [
        | inl less ↦ absurd (let rise = starts-rise 0 middle (layout_line_of pieces gap) pieces piece found.0 (ArePieces-starts text pieces are).0 less is found.1 in omega arith)
        | inr more ↦
            let same : middle ≡ layout_line_of pieces gap = omega arith in
            let one : start_of pieces middle ≡ start_of pieces (layout_line_of pieces gap) = ap (start_of pieces) same in
            absurd (omega (arith, one, start_of-get pieces middle piece is, start_of-get pieces (layout_line_of pieces gap) found.0 found.1))
      ]
]

-- the pieces of a text are some
pub pieces-some : (text : List ℕ) (pieces : List Piece) → ArePieces text pieces → 0 < length pieces
pieces-some text pieces are = let inside = (IsLayoutLineOf-layout_line_of text pieces 0 are).inside in omega arith

-- the last piece ends with the text
pub end-last : (text : List ℕ) (pieces : List Piece) (line : ℕ) (piece : Piece) → ArePieces text pieces → line + 1 ≡ length pieces → slice_get pieces line ≡ Some piece →
    piece.end ≡ length text
end-last text pieces line piece are last is =
    let own = HasOwn-line text pieces line are (omega arith) in
    let has = own.2 in
    let high = has.high in
    let inside = has.inside in
    let all : own.1 ≡ length pieces = omega arith in
    let end = has.end line piece (omega arith) is in
    let whole = has.whole all in omega arith

-- a piece ends within the text, and not before it starts
pub piece-within : (text : List ℕ) (pieces : List Piece) (line : ℕ) (piece : Piece) → ArePieces text pieces → slice_get pieces line ≡ Some piece → piece.start ≤ piece.end
piece-within text pieces line piece are is =
    let own = HasOwn-line text pieces line are (slice_get_within pieces line piece is) in
    (own.2.within line piece own.2.low own.2.high is).1

-- ---- from a piece to the ends of its logical line, by the numbers of the pieces

-- this piece is one of the logical line that a layout line is of
abbrev pub StandsIn : List ℕ → List Piece → ℕ → ℕ → Type 0
StandsIn text pieces line at = (first : ℕ) × (past : ℕ) × HasOwn text pieces line first past × (first ≤ at) × (at < past)

pub StandsIn-line : (text : List ℕ) (pieces : List Piece) (line : ℕ) → ArePieces text pieces → line < length pieces → StandsIn text pieces line line
StandsIn-line text pieces line are there =
    let own = HasOwn-line text pieces line are there in (own.0, own.1, own.2, own.2.low, own.2.high)

pub StandsIn-inside : (text : List ℕ) (pieces : List Piece) (line at : ℕ) → StandsIn text pieces line at → at < length pieces
StandsIn-inside text pieces line at (first, past, has, low, high) = let inside = has.inside in omega arith

both_ways_some : (b : Bool) → b ≡ true → b ≡ false → ⊥
both_ways_some b is isnt = both_ways b isnt is

pub StandsIn-start : (text : List ℕ) (pieces : List Piece) (line at : ℕ) (piece : Piece) → StandsIn text pieces line at → slice_get pieces at ≡ Some piece →
    is_some piece.ln ≡ true → piece.start ≡ (line_under text pieces line).start
StandsIn-start text pieces line at piece (first, past, has, low, high) is numbered = elim (cases_lt first at) [
  | inl less ↦ absurd (both_ways_some (is_some piece.ln) numbered (has.rest at piece less high is))
  | inr ge ↦
      let same : at ≡ first = omega arith in
      (has.start piece (subst (λ i. slice_get pieces i ≡ Some piece) same is)).0
]

pub StandsIn-back : (text : List ℕ) (pieces : List Piece) (line at : ℕ) (piece : Piece) → StandsIn text pieces line at → slice_get pieces at ≡ Some piece →
    is_some piece.ln ≡ false → (0 < at) × StandsIn text pieces line (at - 1)
StandsIn-back text pieces line at piece (first, past, has, low, high) is none = elim (cases_lt first at) [
  | inl less ↦ (omega arith, (first, past, has, omega arith, omega arith))
  | inr ge ↦
      let same : at ≡ first = omega arith in
      absurd (both_ways_some (is_some piece.ln) (has.start piece (subst (λ i. slice_get pieces i ≡ Some piece) same is)).1 none)
]

-- the piece before this one is one of that line, and ends here
abbrev pub EndsIn : List ℕ → List Piece → ℕ → ℕ → ℕ → Type 0
EndsIn text pieces line at end = (0 < at) × StandsIn text pieces line (at - 1) × (piece : Piece) × (slice_get pieces (at - 1) ≡ Some piece) × (piece.end ≡ end)

pub EndsIn-line : (text : List ℕ) (pieces : List Piece) (line : ℕ) (piece : Piece) → ArePieces text pieces → slice_get pieces line ≡ Some piece →
    EndsIn text pieces line (line + 1) piece.end
EndsIn-line text pieces line piece are is =
    let same : line ≡ line + 1 - 1 = omega arith in
    let stands = StandsIn-line text pieces line are (slice_get_within pieces line piece is) in
    (omega arith, subst (StandsIn text pieces line) same stands, piece, subst (λ i. slice_get pieces i ≡ Some piece) same is, refl)

pub EndsIn-next : (text : List ℕ) (pieces : List Piece) (line at end : ℕ) (piece : Piece) → EndsIn text pieces line at end → slice_get pieces at ≡ Some piece →
    is_some piece.ln ≡ false → EndsIn text pieces line (at + 1) piece.end
EndsIn-next text pieces line at end piece (some, (first, past, has, low, high), before, was, ends) is none =
    let same : at ≡ at + 1 - 1 = omega arith in
    let less : at < past = elim (cases_lt at past) [
      | inl fine ↦ fine
      | inr ge ↦
          let here : at ≡ past = omega arith in
          absurd (both_ways_some (is_some piece.ln) (has.next piece (subst (λ i. slice_get pieces i ≡ Some piece) here is)).1 none)
    ] in
    (omega arith, (first, past, has, omega arith, omega arith), piece, subst (λ i. slice_get pieces i ≡ Some piece) same is, refl)

pub EndsIn-numbered : (text : List ℕ) (pieces : List Piece) (line at end : ℕ) (piece : Piece) → EndsIn text pieces line at end → slice_get pieces at ≡ Some piece →
    is_some piece.ln ≡ true → end ≡ (line_under text pieces line).start + length (line_under text pieces line).text
EndsIn-numbered text pieces line at end piece (some, (first, past, has, low, high), before, was, ends) is numbered = elim (cases_lt at past) [
  | inl less ↦ absurd (both_ways_some (is_some piece.ln) numbered (has.rest at piece (omega arith) less is))
  | inr ge ↦ let all = has.end (at - 1) before (omega arith) was in omega arith
]

pub EndsIn-last : (text : List ℕ) (pieces : List Piece) (line at end : ℕ) → EndsIn text pieces line at end → length pieces ≤ at →
    end ≡ (line_under text pieces line).start + length (line_under text pieces line).text
EndsIn-last text pieces line at end (some, (first, past, has, low, high), before, was, ends) past_all =
    let inside = has.inside in let all = has.end (at - 1) before (omega arith) was in omega arith
