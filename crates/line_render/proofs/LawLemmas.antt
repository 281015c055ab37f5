-- The pieces of a text follow each other up to its end, and of them the last one alone is told to be the last.
use Rattle.std.proofs.Common.{◌≡◌, ◌↔◌, ℕ, zero, suc, ◌+◌, ◌-◌, ◌<◌, ◌≤◌, Bool, true, false, nat_le, List, [], ◌∷◌, ◌++◌, length, map, take, drop, get_or, Option, Some, None, refl, ap, ap₂, sym, subst, ◌∙◌, arith, append_assoc, length-append}
use Rattle.std.specs.Prelude.{if◌then◌else◌, ◌==◌, ◌&&◌, not, slice_get, slice_range, unwrap_or}
use Rattle.std.specs.List.{AllByRecursion, concat, onto_first, count_by}
use Rattle.std.proofs.lemmas.Bool.{eq-eqb, ne_eqb, le-leb, eqb-true}
use Rattle.std.proofs.lemmas.Bool.Decides.{nat_tests}
use Rattle.std.proofs.lemmas.List.{take_all, length-drop, length-take-le, take-append-le, drop-append-le}
use Rattle.std.proofs.Math.Seq.{drop-append-add}
use Rattle.plain_text.proofs.callers.ListLemmas.{AllByRecursion-take, count_by-yes, count_by-no}
use Rattle.plain_text.specs.Lines.{logical_lines}
use Rattle.plain_text.specs.declared.selection.Region.{Region}
use Rattle.plain_edits.specs.declared.style.Span.{Span}
use Rattle.plain_screen.specs.declared.piece.Piece.{Piece}
use Rattle.plain_screen.specs.View.{RiseTo, AreEnds, pieces_of_line, pieces_from, ArePieces, layout_line_of, IsLayoutLineOf}
use Rattle.plain_screen.proofs.callers.ViewLemmas.{concat-logical_lines, IsLayoutLineOf-layout_line_of}
use Rattle.line_render.specs.Rendered.{own_gaps, ends_in_feed, is_last_piece, text_of_piece, rendered, rendered_piece}

-- ---- LF at the end of a text

abbrev HasNoFeed : List ℕ → Type 0
HasNoFeed text = AllByRecursion (λ c. (c == 10) ≡ false) text

no_feed : (text : List ℕ) → HasNoFeed text → ends_in_feed text ≡ false
no_feed [] all = refl
no_feed (c ∷ []) all = all.0
no_feed (c ∷ d ∷ text) all = no_feed (d ∷ text) all.1

HasNoFeed-drop : (n : ℕ) (text : List ℕ) → HasNoFeed text → HasNoFeed (drop n text)
HasNoFeed-drop zero text all = all
HasNoFeed-drop (suc n) [] all = tt
HasNoFeed-drop (suc n) (c ∷ text) all = HasNoFeed-drop n text all.1

feed-drop : (n : ℕ) (text : List ℕ) → ends_in_feed text ≡ true → n < length text → ends_in_feed (drop n text) ≡ true
feed-drop n [] is inside = absurd (omega arith)
feed-drop zero (c ∷ text) is inside = is
feed-drop (suc n) (c ∷ []) is inside = absurd (omega arith)
feed-drop (suc n) (c ∷ d ∷ text) is inside = feed-drop n (d ∷ text) is (omega arith)

-- each line but the last ends in LF, and the last one has none
abbrev AreLines : List (List ℕ) → Type 0
AreLines [] = ⊥
AreLines (line ∷ []) = HasNoFeed line
AreLines (line ∷ next ∷ lines) = (ends_in_feed line ≡ true) × AreLines (next ∷ lines)

AreLines-logical_lines : (text : List ℕ) → AreLines (logical_lines text)
AreLines-logical_lines [] = tt
AreLines-logical_lines (c ∷ text) = by (c == 10) refl (logical_lines text) (AreLines-logical_lines text)
  where
    longer : (line : List ℕ) → ends_in_feed line ≡ true → ends_in_feed (c ∷ line) ≡ true
    longer [] is = absurd cc
    longer (d ∷ line) is = is

    by : (b : Bool) → (c == 10) ≡ b → (lines : List (List ℕ)) → AreLines lines → AreLines (if b then (c ∷ []) ∷ lines else onto_first c lines)
    by true is [] are = absurd are
    by true is (line ∷ lines) are = (is, are)
    by false is [] are = absurd are
    by false is (line ∷ []) are = (is, are)
    by false is (line ∷ next ∷ lines) are = (longer line are.0, are.1)

-- ---- pieces that follow each other

-- each piece starts where the one before it ends, the first at `from`; the last one ends at the end, and is told to be the last
abbrev pub AreChained : List ℕ → ℕ → List Piece → Type 0
AreChained text from [] = ⊥
AreChained text from (piece ∷ []) =
    (piece.start ≡ from) × (from ≤ piece.end) × (piece.end ≡ length text) × (is_last_piece text piece ≡ true)
AreChained text from (piece ∷ next ∷ pieces) =
    (piece.start ≡ from) × (from < piece.end) × (piece.end ≤ length text) × (is_last_piece text piece ≡ false) × AreChained text piece.end (next ∷ pieces)

and_from : (a b : Bool) → a ≡ true → b ≡ true → (a && b) ≡ true
and_from true b one other = other
and_from false b one other = one

first_false : (a b : Bool) → a ≡ false → (a && b) ≡ false
first_false true b is = absurd cc
first_false false b is = refl

second_false : (a b : Bool) → b ≡ false → (a && b) ≡ false
second_false true b is = is
second_false false b is = refl

RiseTo-le : (len from : ℕ) (ends : List ℕ) → RiseTo len from ends → from ≤ len
RiseTo-le len from [] rise = omega arith
RiseTo-le len from (end ∷ ends) rise = let le = RiseTo-le len end ends rise.1 in let lt = rise.0 in omega arith

slice-within : (text front line back : List ℕ) (from end : ℕ) → text ≡ front ++ (line ++ back) → from ≤ end → end ≤ length line →
    slice_range text (length front + from) (length front + end) ≡ slice_range line from end
slice-within text front line back from end is ordered inside =
    let few : length front + end - (length front + from) ≡ end - from = omega arith in
    ap (λ t. slice_range t (length front + from) (length front + end)) is ∙
    ap₂ (λ n xs. take n xs) few (drop-append-add front (line ++ back) from ∙ drop-append-le from line back (omega arith)) ∙
    take-append-le (end - from) (drop from line) back (omega (arith, length-drop from line))

long : (text front line back : List ℕ) → text ≡ front ++ (line ++ back) → length text ≡ length front + (length line + length back)
long text front line back is = ap length is ∙ length-append front (line ++ back) ∙ ap (λ n. length front + n) (length-append line back)

-- the pieces of the last line of a text
chained-last : (text front line : List ℕ) (ln : Option ℕ) (from : ℕ) (ends : List ℕ) → text ≡ front ++ (line ++ []) → RiseTo (length line) from ends →
    from < length line → HasNoFeed line → AreChained text (length front + from) (pieces_of_line (length front) ln from ends ++ [])
chained-last text front line ln from [] is rise inside none = absurd (omega arith)
chained-last text front line ln from (end ∷ []) is rise inside none =
    let at_end = rise.1 in
    let len = long text front line [] is in (
      refl,
      omega arith,
      omega arith,
      and_from (length front + end == length text) (not (ends_in_feed (slice_range text (length front + from) (length front + end))))
          (eq-eqb (length front + end) (length text) (omega arith))
          (ap not (ap ends_in_feed (slice-within text front line [] from end is (omega arith) (omega arith)) ∙
          no_feed (slice_range line from end) (AllByRecursion-take (λ c. (c == 10) ≡ false) (end - from) (drop from line) (HasNoFeed-drop from line none)))),
    )
chained-last text front line ln from (end ∷ next ∷ ends) is rise inside none =
    let lt = rise.0 in
    let more = rise.1.0 in
    let high = RiseTo-le (length line) next ends rise.1.1 in
    let len = long text front line [] is in (
      refl,
      omega arith,
      omega arith,
      first_false (length front + end == length text) (not (ends_in_feed (slice_range text (length front + from) (length front + end))))
          (ne_eqb (length front + end) (length text) (λ same. omega arith)),
      chained-last text front line None end (next ∷ ends) is rise.1 (omega arith) none,
    )

-- the pieces of another line, and those after it
chained-more : (text front line back : List ℕ) (ln : Option ℕ) (from : ℕ) (ends : List ℕ) (rest : List Piece) → text ≡ front ++ (line ++ back) →
    RiseTo (length line) from ends → from < length line → ends_in_feed line ≡ true → AreChained text (length front + length line) rest →
    AreChained text (length front + from) (pieces_of_line (length front) ln from ends ++ rest)
chained-more text front line back ln from [] rest is rise inside feed chained = absurd (omega arith)
chained-more text front line back ln from (end ∷ []) [] is rise inside feed chained = absurd chained
chained-more text front line back ln from (end ∷ []) (piece ∷ pieces) is rise inside feed chained =
    let at_end = rise.1 in
    let len = long text front line back is in
    let all : end - from ≡ length line - from = omega arith in (
      refl,
      omega arith,
      omega arith,
      second_false (length front + end == length text) (not (ends_in_feed (slice_range text (length front + from) (length front + end))))
          (ap not (ap ends_in_feed (slice-within text front line back from end is (omega arith) (omega arith) ∙
          take_all (end - from) (drop from line) (omega (arith, length-drop from line))) ∙ feed-drop from line feed inside)),
      subst (λ n. AreChained text n (piece ∷ pieces)) (let same : length front + length line ≡ length front + end = omega arith in same) chained,
    )
chained-more text front line back ln from (end ∷ next ∷ ends) rest is rise inside feed chained =
    let lt = rise.0 in
    let more = rise.1.0 in
    let high = RiseTo-le (length line) next ends rise.1.1 in
    let len = long text front line back is in (
      refl,
      omega arith,
      omega arith,
      first_false (length front + end == length text) (not (ends_in_feed (slice_range text (length front + from) (length front + end))))
          (ne_eqb (length front + end) (length text) (λ same. omega arith)),
      chained-more text front line back None end (next ∷ ends) rest is rise.1 (omega arith) feed chained,
    )

abbrev lines_of : List (List ℕ × List ℕ) → List (List ℕ)
lines_of cuts = map (λ (line, ends). line) cuts

-- the one piece of an empty last line
chained-empty : (text front : List ℕ) (number : ℕ) (ends : List ℕ) → text ≡ front ++ ([] ++ []) → ends ≡ 0 ∷ [] →
    AreChained text (length front) (pieces_of_line (length front) (Some number) 0 ends ++ [])
chained-empty text front number ends is are =
    let len = long text front [] [] is in
    let none : length front + 0 - (length front + 0) ≡ 0 = omega arith in
    subst (λ es. AreChained text (length front) (pieces_of_line (length front) (Some number) 0 es ++ [])) (sym are) (
      omega arith,
      omega arith,
      omega arith,
      and_from (length front + 0 == length text) (not (ends_in_feed (slice_range text (length front + 0) (length front + 0))))
          (eq-eqb (length front + 0) (length text) (omega arith))
          (ap (λ n. not (ends_in_feed (take n (drop (length front + 0) text)))) none),
    )

chained-cuts : (text front : List ℕ) (number : ℕ) (cuts : List (List ℕ × List ℕ)) → text ≡ front ++ concat (lines_of cuts) → AreLines (lines_of cuts) →
    AllByRecursion (λ (line, ends). AreEnds (length line) ends) cuts → AreChained text (length front) (pieces_from number (length front) cuts)
chained-cuts text front number [] is lines are = absurd lines
chained-cuts text front number (([], ends) ∷ []) is lines are = chained-empty text front number ends is are.0
chained-cuts text front number ((c ∷ line, ends) ∷ []) is lines are =
    subst (λ n. AreChained text n (pieces_of_line (length front) (Some number) 0 ends ++ [])) (let start : length front + 0 ≡ length front = omega arith in start)
    (chained-last text front (c ∷ line) (Some number) 0 ends is are.0 (omega arith) lines)
chained-cuts text front number (([], ends) ∷ next ∷ cuts) is lines are = absurd (let feed = lines.0 in cc)
chained-cuts text front number ((c ∷ line, ends) ∷ next ∷ cuts) is lines are =
    subst (λ n. AreChained text n (pieces_of_line (length front) (Some number) 0 ends ++ pieces_from (number + 1) (length front + length (c ∷ line)) (next ∷ cuts)))
    (let start : length front + 0 ≡ length front = omega arith in start)
    (chained-more text front (c ∷ line) (concat (lines_of (next ∷ cuts))) (Some number) 0 ends (pieces_from (number + 1) (length front + length (c ∷ line)) (next ∷ cuts))
    is are.0 (omega arith) lines.0
    (subst (λ n. AreChained text n (pieces_from (number + 1) n (next ∷ cuts))) (length-append front (c ∷ line))
    (chained-cuts text (front ++ (c ∷ line)) (number + 1) (next ∷ cuts)
    (is ∙ sym (append_assoc front (c ∷ line) (concat (lines_of (next ∷ cuts))))) lines.1 are.1)))

-- THE PIECES OF A TEXT follow each other
AreChained-pieces : (text : List ℕ) (pieces : List Piece) → ArePieces text pieces → AreChained text 0 pieces
AreChained-pieces text pieces are =
    let whole : concat (lines_of are.cuts) ≡ text = ap concat are.lines ∙ concat-logical_lines text in
    subst (AreChained text 0) (sym are.is)
    (chained-cuts text [] 1 are.cuts (sym whole) (subst AreLines (sym are.lines) (AreLines-logical_lines text)) are.ends)

-- ---- the last one

same_next : (a b c d : ℕ) → a ≡ suc b → c ≡ suc d → (b == d) ≡ (a == c)
same_next a b c d one other = grind (arith, nat_tests)

last_is : (text : List ℕ) (from i : ℕ) (pieces : List Piece) (piece : Piece) → AreChained text from pieces → slice_get pieces i ≡ Some piece →
    is_last_piece text piece ≡ (i + 1 == length pieces)
last_is text from i [] piece chained is = absurd chained
last_is text from zero (first ∷ []) piece chained is =
    let same : first ≡ piece = ap (λ o. unwrap_or o first) is in
    sym (ap (is_last_piece text) same) ∙ chained.3
last_is text from (suc i) (first ∷ []) piece chained is = absurd cc
last_is text from zero (first ∷ next ∷ pieces) piece chained is =
    let same : first ≡ piece = ap (λ o. unwrap_or o first) is in
    sym (ap (is_last_piece text) same) ∙ chained.3 ∙ sym (ne_eqb (0 + 1) (length (first ∷ next ∷ pieces)) (λ hit. omega arith))
last_is text from (suc i) (first ∷ next ∷ pieces) piece chained is =
    last_is text first.end i (next ∷ pieces) piece chained.4 is ∙ same_next (suc i + 1) (i + 1) (length (first ∷ next ∷ pieces)) (length (next ∷ pieces)) (omega arith) refl

-- A PIECE IS RENDERED ALIKE from its own characters and from the whole text
pub rendered-pieces : (text : List ℕ) (pieces : List Piece) (index : ℕ) (piece : Piece) (regions : List Region) (spans : List Span) →
    ArePieces text pieces → slice_get pieces index ≡ Some piece →
    rendered text piece regions spans ≡ rendered_piece (text_of_piece text piece) piece (index + 1 == length pieces) regions spans
rendered-pieces text pieces index piece regions spans are is =
    ap (λ last. rendered_piece (text_of_piece text piece) piece last regions spans)
    (last_is text 0 index pieces piece (AreChained-pieces text pieces are) is)

-- ---- the gaps that are a piece's own

abbrev starts_by : ℕ → Piece → Bool
starts_by gap piece = nat_le piece.start gap

ends_inside : (text : List ℕ) (from i : ℕ) (pieces : List Piece) (piece : Piece) → AreChained text from pieces → slice_get pieces i ≡ Some piece →
    (from ≤ piece.start) × (piece.start ≤ piece.end) × (piece.end ≤ length text)
ends_inside text from i [] piece chained is = absurd chained
ends_inside text from zero (first ∷ []) piece chained is =
    let same : first ≡ piece = ap (λ o. unwrap_or o first) is in
    let start = chained.0 in let up = chained.1 in let end = chained.2 in
    subst (λ (p : Piece). (from ≤ p.start) × (p.start ≤ p.end) × (p.end ≤ length text)) same (omega arith, omega arith, omega arith)
ends_inside text from (suc i) (first ∷ []) piece chained is = absurd cc
ends_inside text from zero (first ∷ next ∷ pieces) piece chained is =
    let same : first ≡ piece = ap (λ o. unwrap_or o first) is in
    let start = chained.0 in let up = chained.1 in let end = chained.2 in
    subst (λ (p : Piece). (from ≤ p.start) × (p.start ≤ p.end) × (p.end ≤ length text)) same (omega arith, omega arith, omega arith)
ends_inside text from (suc i) (first ∷ next ∷ pieces) piece chained is =
    let up = chained.1 in
    let rest = ends_inside text first.end i (next ∷ pieces) piece chained.4 is in
    (let later = rest.0 in omega arith, rest.1, rest.2)

none_later : (text : List ℕ) (from gap : ℕ) (pieces : List Piece) → AreChained text from pieces → gap < from → count_by (starts_by gap) pieces ≡ 0
none_later text from gap [] chained past = absurd chained
none_later text from gap (first ∷ []) chained past =
    count_by-no (starts_by gap) first [] (let start = chained.0 in not_by first.start gap (omega arith))
  where
    not_by : (a b : ℕ) → b < a → nat_le a b ≡ false
    not_by a b lt = grind (arith, nat_tests)
none_later text from gap (first ∷ next ∷ pieces) chained past =
    let up = chained.1 in
    count_by-no (starts_by gap) first (next ∷ pieces) (let start = chained.0 in not_by first.start gap (omega arith)) ∙
    none_later text first.end gap (next ∷ pieces) chained.4 (omega arith)
  where
    not_by : (a b : ℕ) → b < a → nat_le a b ≡ false
    not_by a b lt = grind (arith, nat_tests)

counted : (text : List ℕ) (from gap i : ℕ) (pieces : List Piece) (piece : Piece) → AreChained text from pieces → slice_get pieces i ≡ Some piece →
    piece.start ≤ gap → (is_last_piece text piece ≡ false → gap < piece.end) → count_by (starts_by gap) pieces ≡ i + 1
counted text from gap i [] piece chained is by_then before = absurd chained
counted text from gap zero (first ∷ []) piece chained is by_then before =
    let same : first ≡ piece = ap (λ o. unwrap_or o first) is in
    count_by-yes (starts_by gap) first [] (le-leb first.start gap (subst (λ (p : Piece). p.start ≤ gap) (sym same) by_then))
counted text from gap (suc i) (first ∷ []) piece chained is by_then before = absurd cc
counted text from gap zero (first ∷ next ∷ pieces) piece chained is by_then before =
    let same : first ≡ piece = ap (λ o. unwrap_or o first) is in
    let ahead : gap < first.end = subst (λ (p : Piece). (is_last_piece text p ≡ false → gap < p.end)) (sym same) before chained.3 in
    omega (
      arith,
      count_by-yes (starts_by gap) first (next ∷ pieces) (le-leb first.start gap (subst (λ (p : Piece). p.start ≤ gap) (sym same) by_then)),
      none_later text first.end gap (next ∷ pieces) chained.4 ahead,
    )
counted text from gap (suc i) (first ∷ next ∷ pieces) piece chained is by_then before =
    let start = chained.0 in let up = chained.1 in
    let later = (ends_inside text first.end i (next ∷ pieces) piece chained.4 is).0 in
    omega (
      arith,
      count_by-yes (starts_by gap) first (next ∷ pieces) (le-leb first.start gap (omega arith)),
      counted text first.end gap i (next ∷ pieces) piece chained.4 is by_then before,
    )

head_start : (text : List ℕ) (from : ℕ) (first : Piece) (pieces : List Piece) → AreChained text from (first ∷ pieces) → first.start ≡ from
head_start text from first [] chained = chained.0
head_start text from first (next ∷ pieces) chained = chained.0

next_start : (text : List ℕ) (from i : ℕ) (pieces : List Piece) (piece : Piece) → AreChained text from pieces → slice_get pieces i ≡ Some piece →
    is_last_piece text piece ≡ false → (next : Piece) × (slice_get pieces (suc i) ≡ Some next) × (next.start ≡ piece.end)
next_start text from i [] piece chained is last = absurd chained
next_start text from zero (first ∷ []) piece chained is last =
    let same : first ≡ piece = ap (λ o. unwrap_or o first) is in
    absurd (let yes_last = chained.3 in let no_last = ap (is_last_piece text) same ∙ last in cc)
next_start text from (suc i) (first ∷ []) piece chained is last = absurd cc
next_start text from zero (first ∷ next ∷ pieces) piece chained is last =
    let same : first ≡ piece = ap (λ o. unwrap_or o first) is in
    (next, refl, head_start text first.end next pieces chained.4 ∙ ap (λ (p : Piece). p.end) same)
next_start text from (suc i) (first ∷ next ∷ pieces) piece chained is last = next_start text first.end i (next ∷ pieces) piece chained.4 is last

-- a piece of a text lies in it, and has as many characters as it is long
pub piece-inside : (text : List ℕ) (pieces : List Piece) (index : ℕ) (piece : Piece) → ArePieces text pieces → slice_get pieces index ≡ Some piece →
    (piece.start ≤ piece.end) × (piece.end ≤ length text)
piece-inside text pieces index piece are is =
    let known = ends_inside text 0 index pieces piece (AreChained-pieces text pieces are) is in (known.1, known.2)

pub length-text_of_piece : (text : List ℕ) (piece : Piece) → piece.start ≤ piece.end → piece.end ≤ length text →
    length (text_of_piece text piece) ≡ piece.end - piece.start
length-text_of_piece text piece ordered inside =
    length-take-le (piece.end - piece.start) (drop piece.start text) (omega (arith, length-drop piece.start text))

first_true : (a b : Bool) → (a && b) ≡ true → a ≡ true
first_true true b is = refl
first_true false b is = is

-- THE GAPS THAT ARE A PIECE'S OWN are those whose layout line it is
pub own-layout_line_of : (text : List ℕ) (pieces : List Piece) (index : ℕ) (piece : Piece) (gap : ℕ) →
    ArePieces text pieces → slice_get pieces index ≡ Some piece → gap ≤ length text →
    ((piece.start ≤ gap) × (gap < piece.start + own_gaps (is_last_piece text piece) (length (text_of_piece text piece)))) ↔ (layout_line_of pieces gap ≡ index)
own-layout_line_of text pieces index piece gap are is inside = (into, back)
  where
    chained : AreChained text 0 pieces
    chained = AreChained-pieces text pieces are

    known : (0 ≤ piece.start) × (piece.start ≤ piece.end) × (piece.end ≤ length text)
    known = ends_inside text 0 index pieces piece chained is

    wide : length (text_of_piece text piece) ≡ piece.end - piece.start
    wide = length-text_of_piece text piece known.1 known.2

    into : (piece.start ≤ gap) × (gap < piece.start + own_gaps (is_last_piece text piece) (length (text_of_piece text piece))) → layout_line_of pieces gap ≡ index
    into own =
        omega (arith, counted text 0 gap index pieces piece chained is own.0 before)
      where
        before : is_last_piece text piece ≡ false → gap < piece.end
        before last =
            let ordered = known.1 in
            let below : gap < piece.start + (piece.end - piece.start) =
            subst (λ n. gap < piece.start + n) (ap₂ (λ b n. own_gaps b n) last wide) own.1 in omega arith

    back : layout_line_of pieces gap ≡ index → (piece.start ≤ gap) × (gap < piece.start + own_gaps (is_last_piece text piece) (length (text_of_piece text piece)))
    back at = (there.by_then piece is, subst (λ n. gap < piece.start + n) (sym (ap (own_gaps (is_last_piece text piece)) wide)) (by (is_last_piece text piece) refl))
      where
        there : IsLayoutLineOf pieces gap index
        there = subst (IsLayoutLineOf pieces gap) at (IsLayoutLineOf-layout_line_of text pieces gap are)

        by : (b : Bool) → is_last_piece text piece ≡ b → gap < piece.start + own_gaps b (piece.end - piece.start)
        by true last =
            let ordered = known.1 in
            let end : piece.end ≡ length text = eqb-true piece.end (length text) (first_true (piece.end == length text) (not (ends_in_feed (text_of_piece text piece))) last) in omega arith
        by false last =
            let ordered = known.1 in
            let next = next_start text 0 index pieces piece chained is last in
            let before : gap < next.0.start = there.last (suc index) next.0 (omega arith) next.1 in
            let start = next.2 in omega arith

-- ---- what pieces tell by their characters

told-piece : (text : List ℕ) (piece part : Piece) → (piece.start ≤ piece.end) × (piece.end ≤ length text) → (part.start ≤ part.end) × (part.end ≤ length text) →
    piece.start ≡ part.start → text_of_piece text piece ≡ text_of_piece text part → piece.ln ≡ part.ln → piece ≡ part
told-piece text piece part one other start line number =
    let end : piece.end ≡ part.end =
    omega (arith, one.0, other.0, start, ap length line, length-text_of_piece text piece one.0 one.1, length-text_of_piece text part other.0 other.1) in
    ap₂ (λ s e. made s e piece.ln) start end ∙ ap (made part.start part.end) number
  where
    made : ℕ → ℕ → Option ℕ → Piece
    made start end ln = record { start = start; end = end; ln = ln }

told-first : (text : List ℕ) (from : ℕ) (piece part : Piece) (pieces parts : List Piece) → AreChained text from (piece ∷ pieces) → AreChained text from (part ∷ parts) →
    map (text_of_piece text) (piece ∷ pieces) ≡ map (text_of_piece text) (part ∷ parts) →
    map (λ (p : Piece). p.ln) (piece ∷ pieces) ≡ map (λ (p : Piece). p.ln) (part ∷ parts) → piece ≡ part
told-first text from piece part pieces parts chained other lines numbers =
    told-piece text piece part (inside piece pieces chained) (inside part parts other)
    (head_start text from piece pieces chained ∙ sym (head_start text from part parts other))
    (ap (λ ls. get_or ls 0 []) lines) (ap (λ ns. get_or ns 0 None) numbers)
  where
    inside : (p : Piece) (ps : List Piece) → AreChained text from (p ∷ ps) → (p.start ≤ p.end) × (p.end ≤ length text)
    inside p ps chain = let known = ends_inside text from 0 (p ∷ ps) p chain refl in (known.1, known.2)

told-chained : (text : List ℕ) (from : ℕ) (pieces parts : List Piece) → AreChained text from pieces → AreChained text from parts →
    map (text_of_piece text) pieces ≡ map (text_of_piece text) parts → map (λ (p : Piece). p.ln) pieces ≡ map (λ (p : Piece). p.ln) parts → pieces ≡ parts
told-chained text from [] parts chained other lines numbers = absurd chained
told-chained text from (piece ∷ pieces) [] chained other lines numbers = absurd other
told-chained text from (piece ∷ []) (part ∷ []) chained other lines numbers =
    ap (λ p. p ∷ []) (told-first text from piece part [] [] chained other lines numbers)
told-chained text from (piece ∷ []) (part ∷ next ∷ parts) chained other lines numbers = absurd (omega (arith, ap length numbers))
told-chained text from (piece ∷ next ∷ pieces) (part ∷ []) chained other lines numbers = absurd (omega (arith, ap length numbers))
told-chained text from (piece ∷ next ∷ pieces) (part ∷ after ∷ parts) chained other lines numbers =
    let first = told-first text from piece part (next ∷ pieces) (after ∷ parts) chained other lines numbers in
    ap₂ (λ p ps. p ∷ ps) first
    (told-chained text piece.end (next ∷ pieces) (after ∷ parts) chained.4
    (subst (λ end. AreChained text end (after ∷ parts)) (sym (ap (λ (p : Piece). p.end) first)) other.4) (ap (drop 1) lines) (ap (drop 1) numbers))

-- PIECES OF A TEXT are told by their characters and numbers
pub pieces-told : (text : List ℕ) (pieces parts : List Piece) → ArePieces text pieces → ArePieces text parts →
    map (text_of_piece text) pieces ≡ map (text_of_piece text) parts → map (λ (p : Piece). p.ln) pieces ≡ map (λ (p : Piece). p.ln) parts → pieces ≡ parts
pieces-told text pieces parts are others lines numbers =
    told-chained text 0 pieces parts (AreChained-pieces text pieces are) (AreChained-pieces text parts others) lines numbers
