-- Lemmas on the pieces of a text, and on the lines of its gaps.
use Rattle.std.proofs.Common.{◌≡◌, ◌⊎◌, inl, inr, ℕ, zero, suc, ◌+◌, ◌-◌, ◌<◌, ◌≤◌, Bool, true, false, nat_le, List, [], ◌∷◌, ◌++◌, length, map, take, drop, get_or, Option, Some, None, refl, ap, ap₂, sym, subst, ◌∙◌, arith, append_assoc, length-append, zero-add}
use Rattle.std.specs.Prelude.{if◌then◌else◌, ◌==◌, slice_get, slice_range, unwrap_or}
use Rattle.std.specs.List.{AllByRecursion, concat, onto_first, count_by}
use Rattle.std.proofs.lemmas.Bool.{le-leb, lt-ltb, le-ltb, cases_lt, cases_order}
use Rattle.std.proofs.lemmas.List.{map-append, drop_all, drop-drop, length-drop, take-append-drop, take-append-le, drop-append-le}
use Rattle.std.proofs.lemmas.List.Folds.{concat-append}
use Rattle.std.proofs.Math.Seq.{drop-append-add}
use Rattle.std.proofs.lemmas.Bool.Decides.{nat_tests}
use Rattle.std.proofs.lemmas.Option.{slice_get_cases}
use Rattle.plain_text.proofs.callers.ListLemmas.{count_by-yes, count_by-no}
use Rattle.plain_text.specs.Lines.{logical_lines}
use Rattle.plain_screen.specs.declared.piece.Piece.{Piece}
use Rattle.plain_screen.specs.View.{RiseTo, AreEnds, pieces_of_line, pieces_from, ArePieces, pieces_by, whole_lines, layout_line_of, IsLayoutLineOf, LogicalLine, logical_line_from, logical_line_of, IsLogicalLineOf}

-- ---- the logical lines of a text

-- one after the other they are the text
pub concat-logical_lines : (text : List ℕ) → concat (logical_lines text) ≡ text
concat-logical_lines [] = refl
concat-logical_lines (c ∷ text) = by (c == 10) (logical_lines text) (concat-logical_lines text)
  where
    by : (b : Bool) (lines : List (List ℕ)) → concat lines ≡ text → concat (if b then (c ∷ []) ∷ lines else onto_first c lines) ≡ c ∷ text
    by true lines is = ap (λ t. c ∷ t) is
    by false [] is = ap (λ t. c ∷ t) is
    by false (line ∷ lines) is = ap (λ t. c ∷ t) is

-- no line but the last is empty
abbrev AreEnded : List (List ℕ) → Type 0
AreEnded [] = Unit {0}
AreEnded (line ∷ []) = Unit {0}
AreEnded (line ∷ next ∷ lines) = (0 < length line) × AreEnded (next ∷ lines)

AreEnded-logical_lines : (text : List ℕ) → AreEnded (logical_lines text)
AreEnded-logical_lines [] = tt
AreEnded-logical_lines (c ∷ text) = by (c == 10) (logical_lines text) (AreEnded-logical_lines text)
  where
    by : (b : Bool) (lines : List (List ℕ)) → AreEnded lines → AreEnded (if b then (c ∷ []) ∷ lines else onto_first c lines)
    by true [] ended = tt
    by true (line ∷ lines) ended = (omega arith, ended)
    by false [] ended = tt
    by false (line ∷ []) ended = tt
    by false (line ∷ next ∷ lines) ended = (omega arith, ended.1)

-- ---- the pieces, one after the other

RiseTo-le : (len from : ℕ) (ends : List ℕ) → RiseTo len from ends → from ≤ len
RiseTo-le len from [] rise = omega arith
RiseTo-le len from (end ∷ ends) rise = let le = RiseTo-le len end ends rise.1 in let lt = rise.0 in omega arith

-- the characters of a piece
abbrev pub text_in : List ℕ → Piece → List ℕ
text_in text piece = slice_range text piece.start piece.end

slice_range-within : (front line back : List ℕ) (from end : ℕ) → from ≤ end → end ≤ length line →
    slice_range (front ++ (line ++ back)) (length front + from) (length front + end) ≡ slice_range line from end
slice_range-within front line back from end ordered inside =
    let few : length front + end - (length front + from) ≡ end - from = omega arith in
    ap₂ (λ n xs. take n xs) few (drop-append-add front (line ++ back) from ∙ drop-append-le from line back (omega arith)) ∙
    take-append-le (end - from) (drop from line) back (omega (arith, length-drop from line))

pieces_of_line-text : (front line back : List ℕ) (ln : Option ℕ) (from : ℕ) (ends : List ℕ) → RiseTo (length line) from ends →
    concat (map (text_in (front ++ (line ++ back))) (pieces_of_line (length front) ln from ends)) ≡ drop from line
pieces_of_line-text front line back ln from [] rise = sym (drop_all from line (omega arith))
pieces_of_line-text front line back ln from (end ∷ ends) rise =
    let le = RiseTo-le (length line) end ends rise.1 in
    let lt = rise.0 in
    ap₂ (λ xs ys. xs ++ ys) (slice_range-within front line back from end (omega arith) (omega arith))
    (pieces_of_line-text front line back None end ends rise.1) ∙
    ap (λ xs. slice_range line from end ++ xs)
    (sym (drop-drop (end - from) from line ∙ ap (λ n. drop n line) (let sum : from + (end - from) ≡ end = omega arith in sum))) ∙
    take-append-drop (end - from) (drop from line)

AreEnds-text : (front line back : List ℕ) (ln : Option ℕ) (ends : List ℕ) → AreEnds (length line) ends →
    concat (map (text_in (front ++ (line ++ back))) (pieces_of_line (length front) ln 0 ends)) ≡ line
AreEnds-text front [] back ln ends are =
    ap (λ es. concat (map (text_in (front ++ back)) (pieces_of_line (length front) ln 0 es))) are ∙
    ap (λ t. t ++ []) (slice_range-within front [] back 0 0 (omega arith) (omega arith))
AreEnds-text front (c ∷ line) back ln ends are = pieces_of_line-text front (c ∷ line) back ln 0 ends are

abbrev pub lines_of : List (List ℕ × List ℕ) → List (List ℕ)
lines_of cuts = map (λ (line, ends). line) cuts

pieces_from-text : (front : List ℕ) (number : ℕ) (cuts : List (List ℕ × List ℕ)) → AllByRecursion (λ (line, ends). AreEnds (length line) ends) cuts →
    concat (map (text_in (front ++ concat (lines_of cuts))) (pieces_from number (length front) cuts)) ≡ concat (lines_of cuts)
pieces_from-text front number [] are = refl
pieces_from-text front number ((line, ends) ∷ cuts) are =
    let text : List ℕ = front ++ (line ++ concat (lines_of cuts)) in
    let first = pieces_of_line (length front) (Some number) 0 ends in
    let others = pieces_from (number + 1) (length front + length line) cuts in
    ap concat (map-append (text_in text) first others) ∙ concat-append (map (text_in text) first) (map (text_in text) others) ∙
    ap₂ (λ xs ys. xs ++ ys) (AreEnds-text front line (concat (lines_of cuts)) (Some number) ends are.0)
    (ap (λ n. concat (map (text_in text) (pieces_from (number + 1) n cuts))) (sym (length-append front line)) ∙
    ap (λ t. concat (map (text_in t) (pieces_from (number + 1) (length (front ++ line)) cuts))) (sym (append_assoc front line (concat (lines_of cuts)))) ∙
    pieces_from-text (front ++ line) (number + 1) cuts are.1)

-- THE PIECES ARE THE TEXT, one after the other
pub pieces-text : (text : List ℕ) (pieces : List Piece) → ArePieces text pieces → concat (map (text_in text) pieces) ≡ text
pieces-text text pieces are =
    let whole : concat (lines_of are.cuts) ≡ text = ap concat are.lines ∙ concat-logical_lines text in
    ap (λ ps. concat (map (text_in text) ps)) are.is ∙
    ap (λ t. concat (map (text_in t) (pieces_from 1 0 are.cuts))) (sym whole) ∙ pieces_from-text [] 1 are.cuts are.ends ∙ whole

-- pieces by a rule that says where a line is cut
pub ArePieces-pieces_by : (ends_of : List ℕ → List ℕ) → ((line : List ℕ) → AreEnds (length line) (ends_of line)) → (text : List ℕ) →
    ArePieces text (pieces_by ends_of text)
ArePieces-pieces_by ends_of each text = record {
  cuts = map (λ line. (line, ends_of line)) (logical_lines text);
  lines = lines_same (logical_lines text);
  ends = all_ends (logical_lines text);
  is = refl;
}
  where
    lines_same : (lines : List (List ℕ)) → lines_of (map (λ line. (line, ends_of line)) lines) ≡ lines
    lines_same [] = refl
    lines_same (line ∷ lines) = ap (λ ls. line ∷ ls) (lines_same lines)

    all_ends : (lines : List (List ℕ)) → AllByRecursion (λ (line, ends). AreEnds (length line) ends) (map (λ line. (line, ends_of line)) lines)
    all_ends [] = tt
    all_ends (line ∷ lines) = (each line, all_ends lines)

pub ArePieces-whole_lines : (text : List ℕ) → ArePieces text (whole_lines text)
ArePieces-whole_lines text = ArePieces-pieces_by (λ line. length line ∷ []) ends text
  where
    ends : (line : List ℕ) → AreEnds (length line) (length line ∷ [])
    ends [] = refl
    ends (c ∷ line) = (omega arith, refl)

-- ---- the layout line of a gap

-- each piece starts after the one before, and the first not before `low`
abbrev pub StartsFrom : ℕ → List Piece → Type 0
StartsFrom low [] = Unit {0}
StartsFrom low (piece ∷ pieces) = (low ≤ piece.start) × StartsFrom (piece.start + 1) pieces

StartsFrom-lower : (low from : ℕ) (pieces : List Piece) → low ≤ from → StartsFrom from pieces → StartsFrom low pieces
StartsFrom-lower low from [] lower starts = tt
StartsFrom-lower low from (piece ∷ pieces) lower starts = (let le = starts.0 in omega arith, starts.1)

pieces_of_line-starts : (low start len : ℕ) (ln : Option ℕ) (from : ℕ) (ends : List ℕ) (rest : List Piece) → low ≤ start + from → RiseTo len from ends →
    StartsFrom (start + len) rest → StartsFrom low (pieces_of_line start ln from ends ++ rest)
pieces_of_line-starts low start len ln from [] rest le rise starts = StartsFrom-lower low (start + len) rest (omega arith) starts
pieces_of_line-starts low start len ln from (end ∷ ends) rest le rise starts =
    let lt = rise.0 in (le, pieces_of_line-starts (start + from + 1) start len None end ends rest (omega arith) rise.1 starts)

pieces_from-starts : (number start : ℕ) (cuts : List (List ℕ × List ℕ)) → AreEnded (lines_of cuts) →
    AllByRecursion (λ (line, ends). AreEnds (length line) ends) cuts → StartsFrom start (pieces_from number start cuts)
pieces_from-starts number start [] ended are = tt
pieces_from-starts number start (([], ends) ∷ []) ended are =
    let At : List ℕ → Type 0 = λ es. StartsFrom start (pieces_of_line start (Some number) 0 es ++ []) in
    subst At (sym are.0) (omega arith, tt)
pieces_from-starts number start ((c ∷ line, ends) ∷ []) ended are =
    pieces_of_line-starts start start (length (c ∷ line)) (Some number) 0 ends [] (omega arith) are.0 tt
pieces_from-starts number start (([], ends) ∷ next ∷ cuts) ended are = absurd (let lt = ended.0 in omega arith)
pieces_from-starts number start ((c ∷ line, ends) ∷ next ∷ cuts) ended are =
    pieces_of_line-starts start start (length (c ∷ line)) (Some number) 0 ends (pieces_from (number + 1) (start + length (c ∷ line)) (next ∷ cuts))
    (omega arith) are.0 (pieces_from-starts (number + 1) (start + length (c ∷ line)) (next ∷ cuts) ended.1 are.1)

-- how many start by a gap: these come first
record AreCounted (gap count : ℕ) (pieces : List Piece) : Type 0 where
  pub inside : count ≤ length pieces
  pub before : (i : ℕ) (piece : Piece) → i < count → slice_get pieces i ≡ Some piece → piece.start ≤ gap
  pub after : (i : ℕ) (piece : Piece) → count ≤ i → slice_get pieces i ≡ Some piece → gap < piece.start

-- the test of `layout_line_of`
abbrev starts_by : ℕ → Piece → Bool
starts_by gap piece = nat_le piece.start gap

all_after : (gap low i : ℕ) (pieces : List Piece) (piece : Piece) → StartsFrom low pieces → gap < low → slice_get pieces i ≡ Some piece → gap < piece.start
all_after gap low i [] piece starts past is = absurd cc
all_after gap low zero (first ∷ pieces) piece starts past is =
    let same : first ≡ piece = ap (λ o. unwrap_or o first) is in
    let le = starts.0 in subst (λ (q : Piece). gap < q.start) same (omega arith)
all_after gap low (suc i) (first ∷ pieces) piece starts past is =
    let le = starts.0 in all_after gap (first.start + 1) i pieces piece starts.1 (omega arith) is

none_before : (gap low : ℕ) (pieces : List Piece) → StartsFrom low pieces → gap < low → count_by (starts_by gap) pieces ≡ 0
none_before gap low [] starts past = refl
none_before gap low (first ∷ pieces) starts past =
    let le = starts.0 in
    count_by-no (starts_by gap) first pieces (lt-leb-false gap first.start (omega arith)) ∙
    none_before gap (first.start + 1) pieces starts.1 (omega arith)
  where
    lt-leb-false : (a b : ℕ) → a < b → nat_le b a ≡ false
    lt-leb-false a b lt = grind (arith, nat_tests)

AreCounted-starts : (gap low : ℕ) (pieces : List Piece) → StartsFrom low pieces → AreCounted gap (count_by (starts_by gap) pieces) pieces
AreCounted-starts gap low [] starts = record { inside = omega arith; before = λ i piece lt is. absurd cc; after = λ i piece le is. absurd cc }
AreCounted-starts gap low (first ∷ pieces) starts =
    both (AreCounted-starts gap (first.start + 1) pieces starts.1) (cases_lt gap first.start)
  where
    both : AreCounted gap (count_by (starts_by gap) pieces) pieces → (gap < first.start) ⊎ (first.start ≤ gap) →
        AreCounted gap (count_by (starts_by gap) (first ∷ pieces)) (first ∷ pieces)
    both rest (inl past) =
        let At : ℕ → Type 0 = λ n. AreCounted gap n (first ∷ pieces) in
        subst At (sym (none_before gap first.start (first ∷ pieces) (omega arith, starts.1) past)) (record {
          inside = omega arith;
          before = λ i piece lt is. absurd (omega arith);
          after = λ i piece le is. all_after gap first.start i (first ∷ pieces) piece (omega arith, starts.1) past is;
        })
    both rest (inr by_then) =
        let At : ℕ → Type 0 = λ n. AreCounted gap n (first ∷ pieces) in
        subst At (sym (count_by-yes (starts_by gap) first pieces (le-leb first.start gap by_then))) (record {
          inside = let le = rest.inside in omega arith;
          before = before rest by_then;
          after = after rest;
        })
      where
        before : AreCounted gap (count_by (starts_by gap) pieces) pieces → first.start ≤ gap → (i : ℕ) (piece : Piece) →
            i < count_by (starts_by gap) pieces + 1 → slice_get (first ∷ pieces) i ≡ Some piece → piece.start ≤ gap
        before rest by_then zero piece lt is =
            let same : first ≡ piece = ap (λ o. unwrap_or o first) is in subst (λ (q : Piece). q.start ≤ gap) same by_then
        before rest by_then (suc i) piece lt is = rest.before i piece (omega arith) is

        after : AreCounted gap (count_by (starts_by gap) pieces) pieces → (i : ℕ) (piece : Piece) →
            count_by (starts_by gap) pieces + 1 ≤ i → slice_get (first ∷ pieces) i ≡ Some piece → gap < piece.start
        after rest zero piece le is = absurd (omega arith)
        after rest (suc i) piece le is = rest.after i piece (omega arith) is

-- the first piece of a text starts at its start
abbrev pub StartsAtStart : List Piece → Type 0
StartsAtStart [] = ⊥
StartsAtStart (piece ∷ pieces) = piece.start ≡ 0

pub logical_lines-some : (text : List ℕ) → logical_lines text ≡ [] → ⊥
logical_lines-some [] none = cc
logical_lines-some (c ∷ text) none = by (c == 10) (logical_lines text) none
  where
    by : (b : Bool) (lines : List (List ℕ)) → (if b then (c ∷ []) ∷ lines else onto_first c lines) ≡ [] → ⊥
    by true lines none = cc
    by false [] none = cc
    by false (line ∷ lines) none = cc

pieces_from-start : (cuts : List (List ℕ × List ℕ)) → (lines_of cuts ≡ [] → ⊥) → AllByRecursion (λ (line, ends). AreEnds (length line) ends) cuts →
    StartsAtStart (pieces_from 1 0 cuts)
pieces_from-start [] some are = absurd (some refl)
pieces_from-start (([], ends) ∷ cuts) some are =
    let At : List ℕ → Type 0 = λ es. StartsAtStart (pieces_from 1 0 (([], es) ∷ cuts)) in subst At (sym are.0) refl
pieces_from-start ((c ∷ line, []) ∷ cuts) some are = absurd (let zero_is_long = are.0 in omega arith)
pieces_from-start ((c ∷ line, end ∷ ends) ∷ cuts) some are = refl

-- what is known of the pieces of a text: where they start, and the first of them
pub ArePieces-starts : (text : List ℕ) (pieces : List Piece) → ArePieces text pieces → StartsFrom 0 pieces × StartsAtStart pieces
ArePieces-starts text pieces are =
    let ended : AreEnded (lines_of are.cuts) = subst AreEnded (sym are.lines) (AreEnded-logical_lines text) in
    let At : List Piece → Type 0 = λ ps. StartsFrom 0 ps × StartsAtStart ps in
    subst At (sym are.is)
    (pieces_from-starts 1 0 are.cuts ended are.ends, pieces_from-start are.cuts (λ none. logical_lines-some text (sym are.lines ∙ none)) are.ends)

some_first : (gap : ℕ) (pieces : List Piece) → StartsAtStart pieces → 0 < count_by (starts_by gap) pieces
some_first gap [] first = absurd first
some_first gap (piece ∷ pieces) first =
    let by_then : piece.start ≤ gap = omega arith in
    omega (arith, count_by-yes (starts_by gap) piece pieces (le-leb piece.start gap by_then))

-- THE LAYOUT LINE OF A GAP is there, and there is no other
pub IsLayoutLineOf-layout_line_of : (text : List ℕ) (pieces : List Piece) (gap : ℕ) → ArePieces text pieces → IsLayoutLineOf pieces gap (layout_line_of pieces gap)
IsLayoutLineOf-layout_line_of text pieces gap are =
    let known = ArePieces-starts text pieces are in
    let counted = AreCounted-starts gap 0 pieces known.0 in
    let some = some_first gap pieces known.1 in record {
      inside = let le = counted.inside in omega arith;
      by_then = λ piece is. counted.before (layout_line_of pieces gap) piece (omega arith) is;
      last = λ later piece lt is. counted.after later piece (omega arith) is;
    }

not_before : (pieces : List Piece) (gap index other : ℕ) → IsLayoutLineOf pieces gap index → IsLayoutLineOf pieces gap other → index < other → ⊥
not_before pieces gap index other is too before = by (slice_get_cases pieces other).1
  where
    by : ((piece : Piece) × (other < length pieces) × (slice_get pieces other ≡ Some piece) × (get_or pieces other piece ≡ piece)) ⊎
        ((length pieces ≤ other) × (slice_get pieces other ≡ None)) → ⊥
    by (inl found) =
        let past = is.last other found.0 before found.2 in
        let by_then = too.by_then found.0 found.2 in omega arith
    by (inr outside) = let inside = too.inside in let le = outside.0 in omega arith

pub IsLayoutLineOf-only : (pieces : List Piece) (gap index other : ℕ) → IsLayoutLineOf pieces gap index → IsLayoutLineOf pieces gap other → index ≡ other
IsLayoutLineOf-only pieces gap index other is too = elim (cases_order index other) [
  | inl same ↦ same
  | inr (inl before) ↦ absurd (not_before pieces gap index other is too before)
  | inr (inr after) ↦ absurd (not_before pieces gap other index too is after)
]

-- ---- the logical line of a gap

-- the same of lines of which the first has this index and start
record IsLineFrom (first from gap : ℕ) (lines : List (List ℕ)) (line : LogicalLine) : Type 0 where
  pub count : ℕ
  pub index : line.index ≡ first + count
  pub is : slice_get lines count ≡ Some line.text
  pub start : line.start ≡ from + length (concat (take count lines))
  pub by_then : line.start ≤ gap
  pub last : (count + 1 ≡ length lines) ⊎ (gap < line.start + length line.text)

IsLineFrom-lines : (index start gap : ℕ) (lines : List (List ℕ)) → (lines ≡ [] → ⊥) → start ≤ gap →
    IsLineFrom index start gap lines (logical_line_from index start gap lines)
IsLineFrom-lines index start gap [] some le = absurd (some refl)
IsLineFrom-lines index start gap (line ∷ []) some le =
    record { count = 0; index = omega arith; is = refl; start = omega arith; by_then = le; last = inl (omega arith) }
IsLineFrom-lines index start gap (line ∷ next ∷ lines) some le =
    let At : Bool → Type 0 = λ b. IsLineFrom index start gap (line ∷ next ∷ lines)
    (if b then record { index = index; start = start; text = line } else logical_line_from (index + 1) (start + length line) gap (next ∷ lines)) in
    elim (cases_lt gap (start + length line)) [
      | inl here ↦ subst At (sym (lt-ltb gap (start + length line) here))
          (record { count = 0; index = omega arith; is = refl; start = omega arith; by_then = le; last = inr here })
      | inr past ↦ subst At (sym (le-ltb gap (start + length line) past))
          (later (IsLineFrom-lines (index + 1) (start + length line) gap (next ∷ lines) (λ none. cc) past))
    ]
  where
    later : IsLineFrom (index + 1) (start + length line) gap (next ∷ lines) (logical_line_from (index + 1) (start + length line) gap (next ∷ lines)) →
        IsLineFrom index start gap (line ∷ next ∷ lines) (logical_line_from (index + 1) (start + length line) gap (next ∷ lines))
    later rest = record {
      count = suc rest.count;
      index = omega (arith, rest.index);
      is = rest.is;
      start = omega (arith, rest.start, length-append line (concat (take rest.count (next ∷ lines))));
      by_then = rest.by_then;
      last = elim rest.last [ inl end ↦ inl (omega arith) | inr before ↦ inr before ];
    }

-- THE LOGICAL LINE OF A GAP is the last one that starts by it
pub IsLogicalLineOf-logical_line_of : (text : List ℕ) (gap : ℕ) → IsLogicalLineOf text gap (logical_line_of text gap)
IsLogicalLineOf-logical_line_of text gap =
    let is = IsLineFrom-lines 0 0 gap (logical_lines text) (logical_lines-some text) (omega arith) in
    let same : (logical_line_of text gap).index ≡ is.count = omega (arith, is.index) in record {
      is = ap (slice_get (logical_lines text)) same ∙ is.is;
      start = is.start ∙ zero-add (length (concat (take is.count (logical_lines text)))) ∙ ap (λ n. length (concat (take n (logical_lines text)))) (sym same);
      by_then = is.by_then;
      last = elim is.last [ inl end ↦ inl (omega arith) | inr before ↦ inr before ];
    }
