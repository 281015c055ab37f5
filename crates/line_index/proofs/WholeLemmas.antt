-- The logical lines of a text by their index, and as pieces.
use Rattle.std.proofs.Common.{◌≡◌, ◌⊎◌, inl, inr, ℕ, zero, suc, ◌+◌, ◌-◌, ◌<◌, ◌≤◌, Bool, true, false, List, [], ◌∷◌, ◌++◌, length, map, take, drop, Option, Some, None, refl, ap, ap₂, sym, subst, ◌∙◌, arith, append-nil, length-append, length-take, take_all, take_at, take-add}
use Rattle.std.specs.Prelude.{if◌then◌else◌, ◌==◌, is_some, unwrap_or, slice_get, slice_range, IfNone, IfSome, IsNone, ◌↔◌}
use Rattle.std.specs.List.{concat, onto_first}
use Rattle.std.specs.Option.{option_map}
use Rattle.std.proofs.lemmas.Bool.{both_ways, cases_lt}
use Rattle.std.proofs.lemmas.List.{take-append-drop}
use Rattle.std.proofs.lemmas.List.Folds.{concat-append}
use Rattle.std.proofs.lemmas.Option.{slice_get_cases, slice_get_within}
use Rattle.plain_text.specs.Lines.{logical_lines}
use Rattle.plain_text.specs.Text.{byte_len, place_of}
use Rattle.plain_text.specs.declared.run.Run.{Run}
use Rattle.plain_text.proofs.callers.ListLemmas.{count_by-yes, count_by-no}
use Rattle.plain_screen.specs.declared.piece.Piece.{Piece}
use Rattle.plain_screen.specs.View.{IsLayoutLineOf, extent_of, layout_line_of, line_under, pieces_from, start_of, whole_lines}
use Rattle.plain_screen.proofs.callers.ViewLemmas.{ArePieces-whole_lines, IsLayoutLineOf-layout_line_of, IsLayoutLineOf-only, concat-logical_lines}
use Rattle.plain_screen.proofs.callers.OwnLemmas.{HasOwn, HasOwn-line}
use Rattle.rope_metrics.specs.declared.line.InLine.{InLine}
use Rattle.rope_metrics.specs.declared.measure.Measure.{Measure}
use Rattle.rope_metrics.specs.declared.measure.Measure.TheVariants.{Bytes, Chars, Lines}
use Rattle.rope_metrics.specs.Measure.{HasNone, IsConverted}
use Rattle.rope_node.specs.Lengths.{byte_len-append, lf_count}
use Rattle.line_index.specs.Cuts.{full_lines, open_line}
use Rattle.line_index.specs.Whole.{line_start, point_of}
use Rattle.line_index.proofs.LineLemmas.{count-full, ended-after, full_and_last, lf_count-append, lf_count-cons, logical_lines-append}

-- ---- how many there are

pub length-logical_lines : (text : List ℕ) → length (logical_lines text) ≡ lf_count text + 1
length-logical_lines [] = refl
length-logical_lines (c ∷ text) = by (c == 10) refl (logical_lines text) (length-logical_lines text)
  where
    by : (b : Bool) → (c == 10) ≡ b → (lines : List (List ℕ)) → length lines ≡ lf_count text + 1 →
        length (if b then (c ∷ []) ∷ lines else onto_first c lines) ≡ lf_count (c ∷ text) + 1
    by true is lines many = omega (arith, many, count_by-yes (λ x. x == 10) c text is)
    by false is [] many = absurd (omega (arith, many))
    by false is (line ∷ lines) many = omega (arith, many, count_by-no (λ x. x == 10) c text is)

pub lf_count-le : (text : List ℕ) → lf_count text ≤ length text
lf_count-le [] = omega arith
lf_count-le (c ∷ text) = by (c == 10) (lf_count-cons c text) (lf_count-le text)
  where
    by : (b : Bool) → lf_count (c ∷ text) ≡ (if b then 1 else 0) + lf_count text → lf_count text ≤ length text → lf_count (c ∷ text) ≤ length (c ∷ text)
    by true is few = omega (arith, is, few)
    by false is few = omega (arith, is, few)

-- ---- each as one piece

abbrev whole_cuts : List (List ℕ) → List (List ℕ × List ℕ)
whole_cuts lines = map (λ line. (line, length line ∷ [])) lines

length-whole : (number start : ℕ) (lines : List (List ℕ)) → length (pieces_from number start (whole_cuts lines)) ≡ length lines
length-whole number start [] = refl
length-whole number start (line ∷ lines) = omega (arith, length-whole (number + 1) (start + length line) lines)

pub length-whole_lines : (text : List ℕ) → length (whole_lines text) ≡ lf_count text + 1
length-whole_lines text = length-whole 1 0 (logical_lines text) ∙ length-logical_lines text

abbrev numbered : ℕ → ℕ → ℕ → Option Piece
numbered start end number = Some (record { start = start; end = end; ln = Some number })

piece-same : (a b c d e f : ℕ) → a ≡ d → b ≡ e → c ≡ f → numbered a b c ≡ numbered d e f
piece-same a b c d e f p q r = rw (p, q, r) refl

whole-get : (number start : ℕ) (lines : List (List ℕ)) (i : ℕ) → i < length lines →
    slice_get (pieces_from number start (whole_cuts lines)) i ≡
    Some (record { start = start + length (concat (take i lines)); end = start + length (concat (take (suc i) lines)); ln = Some (number + i) })
whole-get number start [] i inside = absurd (omega arith)
whole-get number start (line ∷ lines) zero inside =
    piece-same (start + 0) (start + length line) number (start + 0) (start + length (line ++ [])) (number + 0)
    refl (omega (arith, length-append line [])) (omega arith)
whole-get number start (line ∷ lines) (suc i) inside =
    whole-get (number + 1) (start + length line) lines i (omega arith) ∙
    piece-same _ _ _ (start + length (line ++ concat (take i lines))) (start + length (line ++ concat (take (suc i) lines))) (number + suc i)
    (omega (arith, length-append line (concat (take i lines)))) (omega (arith, length-append line (concat (take (suc i) lines)))) (omega arith)

-- THE PIECE OF A LOGICAL LINE, by its index
pub piece-whole : (text : List ℕ) (index : ℕ) → index ≤ lf_count text →
    slice_get (whole_lines text) index ≡ Some (record { start = line_start text index; end = line_start text (index + 1); ln = Some (index + 1) })
piece-whole text index inside =
    let next : suc index ≡ index + 1 = omega arith in
    whole-get 1 0 (logical_lines text) index (omega (arith, length-logical_lines text)) ∙
    piece-same _ _ _ (line_start text index) (line_start text (index + 1)) (index + 1)
    (omega arith) (omega (arith, ap (line_start text) next)) (omega arith)

pub piece-past : (text : List ℕ) (index : ℕ) → lf_count text < index → slice_get (whole_lines text) index ≡ None
piece-past text index past = elim (slice_get_cases (whole_lines text) index).1 [
  | inl found ↦ absurd (let inside = found.1 in omega (arith, length-whole_lines text))
  | inr outside ↦ outside.1
]

pub start-whole : (text : List ℕ) (index : ℕ) (piece : Piece) → slice_get (whole_lines text) index ≡ Some piece →
    (piece.start ≡ line_start text index) × (piece.end ≡ line_start text (index + 1)) × (is_some piece.ln ≡ true) × (index ≤ lf_count text)
start-whole text index piece is =
    let inside : index ≤ lf_count text = omega (arith, slice_get_within (whole_lines text) index piece is, length-whole_lines text) in
    let same = sym is ∙ piece-whole text index inside in (
      ap (λ o. (unwrap_or o piece).start) same,
      ap (λ o. (unwrap_or o piece).end) same,
      ap (λ o. is_some (unwrap_or o piece).ln) same,
      inside,
    )

pub start_of-whole : (text : List ℕ) (index : ℕ) → index ≤ lf_count text → start_of (whole_lines text) index ≡ line_start text index
start_of-whole text index inside = ap (λ o. unwrap_or (option_map (λ (piece : Piece). piece.start) o) 0) (piece-whole text index inside)

-- ---- where they start

-- the lines that LFs end in the front of a text are its first lines
pub first_lines : (front rest : List ℕ) → take (lf_count front) (logical_lines (front ++ rest)) ≡ full_lines front
first_lines front rest =
    ap (take (lf_count front)) (logical_lines-append front rest) ∙ take_at (full_lines front) _ (lf_count front) (count-full front)

line_start-front : (front rest : List ℕ) → line_start (front ++ rest) (lf_count front) + length (open_line front) ≡ length front
line_start-front front rest =
    omega (
      arith,
      ap (λ (lines : List (List ℕ)). length (concat lines)) (first_lines front rest),
      ap length (full_and_last front),
      length-append (concat (full_lines front)) (open_line front),
    )

pub line_start-converted : (text : List ℕ) (index gap : ℕ) → IsConverted Lines Chars text index gap → gap ≡ line_start text index
line_start-converted text index gap is =
    let count : lf_count is.front ≡ index = is.cut.ends in
    let start : line_start text index ≡ line_start (is.front ++ is.back) (lf_count is.front) = ap₂ line_start is.cut.cut (sym count) in
    let ended : length (open_line is.front) ≡ 0 = ap length (ended-after text is.front is.back index is.cut) in
    omega (arith, is.is, start, ended, line_start-front is.front is.back)

-- a text has a gap with each number of LFs left of it, up to that of all
feeds_cut : (text : List ℕ) (count : ℕ) → count ≤ lf_count text → (front : List ℕ) × (back : List ℕ) × (text ≡ front ++ back) × (lf_count front ≡ count)
feeds_cut text zero few = ([], text, refl, refl)
feeds_cut [] (suc count) few = absurd (omega arith)
feeds_cut (c ∷ text) (suc count) few = by (c == 10) refl (λ n le. feeds_cut text n le)
  where
    by : (b : Bool) → (c == 10) ≡ b →
        ((n : ℕ) → n ≤ lf_count text → (front : List ℕ) × (back : List ℕ) × (text ≡ front ++ back) × (lf_count front ≡ n)) →
        (front : List ℕ) × (back : List ℕ) × (c ∷ text ≡ front ++ back) × (lf_count front ≡ suc count)
    by true is rest =
        let cut = rest count (omega (arith, few, count_by-yes (λ x. x == 10) c text is)) in
        let many = cut.3 in
        (c ∷ cut.0, cut.1, ap (λ t. c ∷ t) cut.2, omega (arith, many, count_by-yes (λ x. x == 10) c cut.0 is))
    by false is rest =
        let cut = rest (suc count) (omega (arith, few, count_by-no (λ x. x == 10) c text is)) in
        let many = cut.3 in
        (c ∷ cut.0, cut.1, ap (λ t. c ∷ t) cut.2, omega (arith, many, count_by-no (λ x. x == 10) c cut.0 is))

pub line_start-past : (text : List ℕ) (index : ℕ) → HasNone Lines text index → length text ≡ line_start text index
line_start-past text index none = elim (cases_lt (lf_count text) index) [
  | inl past ↦ sym (ap length (ap concat (take_all index (logical_lines text) (omega (arith, length-logical_lines text))) ∙ concat-logical_lines text))
  | inr within ↦ let cut = feeds_cut text index within in absurd (none cut.0 cut.1 cut.2 cut.3)
]

-- where a line starts, found or not
pub line_start-either : (text : List ℕ) (index past : ℕ) (found : Option ℕ) → IfSome found (λ gap. IsConverted Lines Chars text index gap) →
    IfNone found (HasNone Lines text index) → past ≡ length text → unwrap_or found past ≡ line_start text index
line_start-either text index past (Some gap) is none past_is = line_start-converted text index gap is
line_start-either text index past None is none past_is = past_is ∙ line_start-past text index none

-- ---- the line of a gap

-- so many first lines have as many LFs
count-lines : (text : List ℕ) (n : ℕ) → n ≤ lf_count text → lf_count (concat (take n (logical_lines text))) ≡ n
count-lines text zero few = refl
count-lines [] (suc n) few = absurd (omega arith)
count-lines (c ∷ text) (suc n) few = by (c == 10) refl (logical_lines text) (length-logical_lines text) (λ m le. count-lines text m le)
  where
    by : (b : Bool) → (c == 10) ≡ b → (lines : List (List ℕ)) → length lines ≡ lf_count text + 1 →
        ((m : ℕ) → m ≤ lf_count text → lf_count (concat (take m lines)) ≡ m) →
        lf_count (concat (take (suc n) (if b then (c ∷ []) ∷ lines else onto_first c lines))) ≡ suc n
    by true is lines many rest =
        omega (arith, rest n (omega (arith, few, count_by-yes (λ x. x == 10) c text is)), count_by-yes (λ x. x == 10) c (concat (take n lines)) is)
    by false is [] many rest = absurd (omega (arith, many))
    by false is (line ∷ lines) many rest =
        omega (
          arith,
          rest (suc n) (omega (arith, few, count_by-no (λ x. x == 10) c text is)),
          count_by-no (λ x. x == 10) c (line ++ concat (take n lines)) is,
        )

-- a longer front has no fewer LFs
count-take : (n m : ℕ) (text : List ℕ) → n ≤ m → lf_count (take n text) ≤ lf_count (take m text)
count-take zero m text le = omega arith
count-take (suc n) zero text le = absurd (omega arith)
count-take (suc n) (suc m) [] le = omega arith
count-take (suc n) (suc m) (c ∷ text) le =
    omega (arith, lf_count-cons c (take n text), lf_count-cons c (take m text), count-take n m text (omega arith))

-- a line of which more LFs stand left than of a gap starts after the gap
line_start-after : (text : List ℕ) (gap index : ℕ) → lf_count (take gap text) < index → index ≤ lf_count text → gap < line_start text index
line_start-after text gap index few inside = elim (cases_lt gap (line_start text index)) [
  | inl after ↦ after
  | inr by_then ↦
      let lines : List (List ℕ) = logical_lines text in
      let parts : concat (take index lines) ++ concat (drop index lines) ≡ text =
      sym (concat-append (take index lines) (drop index lines)) ∙ ap concat (take-append-drop index lines) ∙ concat-logical_lines text in
      let first : take (line_start text index) text ≡ concat (take index lines) =
      ap (take (line_start text index)) (sym parts) ∙ take_at (concat (take index lines)) (concat (drop index lines)) (line_start text index) refl in
      absurd (omega (arith, few, ap lf_count first, count-lines text index inside, count-take (line_start text index) gap text by_then))
]

-- THE LAYOUT LINE OF A GAP is as many as LFs stand left of it
pub layout-whole : (text front back : List ℕ) (gap : ℕ) → text ≡ front ++ back → length front ≤ gap → (length front ≡ gap) ⊎ (back ≡ []) →
    lf_count front ≡ layout_line_of (whole_lines text) gap
layout-whole text front back gap cut reached which =
    IsLayoutLineOf-only (whole_lines text) gap (lf_count front) _ (record {
      inside = omega (arith, length-whole_lines text, all);
      by_then = λ piece is.
          let start = (start-whole text (lf_count front) piece is).0 in
          omega (arith, ap (λ (t : List ℕ). line_start t (lf_count front)) cut, line_start-front front back);
      last = λ later piece past is.
          let start = (start-whole text later piece is).0 in
          let inside = (start-whole text later piece is).3 in
          elim which [
            | inl same ↦
                let shown : take gap text ≡ front = ap (take gap) cut ∙ take_at front back gap same in
                let after = line_start-after text gap later (omega (arith, ap lf_count shown)) inside in omega arith
            | inr none ↦ absurd (omega (arith, all, ap lf_count none))
          ];
    }) (IsLayoutLineOf-layout_line_of text (whole_lines text) gap (ArePieces-whole_lines text))
  where
    all : lf_count text ≡ lf_count front + lf_count back
    all = ap lf_count cut ∙ lf_count-append front back

pub line-converted : (text : List ℕ) (gap index : ℕ) → IsConverted Chars Lines text gap index → index ≡ layout_line_of (whole_lines text) gap
line-converted text gap index is =
    let long : length is.front ≡ gap = is.cut.ends in
    is.is ∙ layout-whole text is.front is.back gap is.cut.cut (omega (arith, long)) (inl long)

gap-past : (text : List ℕ) (gap : ℕ) → HasNone Chars text gap → length text < gap
gap-past text gap none = elim (cases_lt (length text) gap) [
  | inl past ↦ past
  | inr inside ↦
      let all : length (take gap text) ≡ gap = omega (arith, length-take gap text, inside) in
      absurd (none (take gap text) (drop gap text) (sym (take-append-drop gap text)) all)
]

pub gap-within : (m : Measure) (text : List ℕ) (gap offset : ℕ) → IsConverted Chars m text gap offset → gap ≤ length text
gap-within m text gap offset is =
    let long : length is.front ≡ gap = is.cut.ends in
    omega (arith, long, ap length is.cut.cut, length-append is.front is.back)

pub line-past : (text : List ℕ) (gap : ℕ) → HasNone Chars text gap → lf_count text ≡ layout_line_of (whole_lines text) gap
line-past text gap none =
    let past = gap-past text gap none in
    layout-whole text text [] gap (sym (append-nil text)) (omega (arith, past)) (inr refl)

-- ---- places

pub place_of-converted : (text : List ℕ) (gap place : ℕ) → IsConverted Chars Bytes text gap place → place ≡ place_of text gap
place_of-converted text gap place is =
    is.is ∙ ap byte_len (sym (ap (take gap) is.cut.cut ∙ take_at is.front is.back gap is.cut.ends))

pub place_of-past : (text : List ℕ) (gap place : ℕ) → HasNone Chars text gap → place ≡ byte_len text → place ≡ place_of text gap
place_of-past text gap place none is =
    let past = gap-past text gap none in is ∙ ap byte_len (sym (take_all gap text (omega (arith, past))))

-- ---- where a line starts, in bytes

pub line_place-converted : (text : List ℕ) (index place : ℕ) → IsConverted Lines Bytes text index place → place ≡ place_of text (line_start text index)
line_place-converted text index place is =
    let start = line_start-converted text index (length is.front) (record { front = is.front; back = is.back; cut = is.cut; is = refl }) in
    is.is ∙ ap byte_len (sym (ap (take (length is.front)) is.cut.cut ∙ take_at is.front is.back (length is.front) refl)) ∙ ap (place_of text) start

-- ---- where a gap stands in its line

pub inside-line : (text : List ℕ) (gap : ℕ) (found : Option InLine) → IfSome found (λ (at : InLine). IsConverted Chars Lines text gap at.line) →
    IfSome found (λ (at : InLine). at.line ≡ layout_line_of (whole_lines text) gap)
inside-line text gap None is = tt
inside-line text gap (Some at) is = line-converted text gap at.line is

pub inside-start : (text : List ℕ) (found : Option InLine) → IfSome found (λ (at : InLine). IsConverted Lines Bytes text at.line at.start) →
    IfSome found (λ (at : InLine). at.start ≡ place_of text (line_start text at.line))
inside-start text None is = tt
inside-start text (Some at) is = line_place-converted text at.line at.start is

pub inside-place : (text : List ℕ) (gap : ℕ) (found : Option InLine) → IfSome found (λ (at : InLine). IsConverted Chars Bytes text gap at.place) →
    IfSome found (λ (at : InLine). at.place ≡ place_of text gap)
inside-place text gap None is = tt
inside-place text gap (Some at) is = place_of-converted text gap at.place is

pub inside-none : (text : List ℕ) (gap : ℕ) (found : Option InLine) → IfSome found (λ (at : InLine). IsConverted Chars Lines text gap at.line) →
    IfNone found (HasNone Chars text gap) → IsNone found ↔ (length text < gap)
inside-none text gap None is none = (λ is_none. gap-past text gap none, λ past. refl)
inside-none text gap (Some at) is none = (
  λ is_none. absurd cc,
  λ past. absurd (let within = gap-within Lines text gap at.line is in omega (arith, within, past)),
)

-- ---- between places

pub place-between : (text : List ℕ) (from to : ℕ) → from ≤ to → place_of text from + byte_len (slice_range text from to) ≡ place_of text to
place-between text from to ordered =
    let sum : from + (to - from) ≡ to = omega arith in
    sym (byte_len-append (take from text) (slice_range text from to)) ∙ ap byte_len (sym (take-add from (to - from) text)) ∙
    ap (λ (n : ℕ). byte_len (take n text)) sum

-- the line of a gap starts by it
pub line_start-by : (text : List ℕ) (gap line : ℕ) → line ≡ layout_line_of (whole_lines text) gap → (line ≤ lf_count text) × (line_start text line ≤ gap)
line_start-by text gap line is =
    let own = subst (IsLayoutLineOf (whole_lines text) gap) (sym is) (IsLayoutLineOf-layout_line_of text (whole_lines text) gap (ArePieces-whole_lines text)) in
    let within = own.inside in
    let few : line ≤ lf_count text = omega (arith, length-whole_lines text) in
    (few, own.by_then _ (piece-whole text line few))

-- THE POINT OF A GAP
pub point-whole : (text : List ℕ) (gap line start from to : ℕ) → line ≡ layout_line_of (whole_lines text) gap → start ≡ line_start text line →
    to ≡ place_of text gap → from ≡ place_of text start → (from ≤ to) × ((line, to - from) ≡ point_of text (whole_lines text) gap)
point-whole text gap line start from to is starts to_is from_is =
    let by_then = line_start-by text gap line is in
    let few = by_then.0 in
    let le = by_then.1 in
    let at : start_of (whole_lines text) line ≡ start = start_of-whole text line few ∙ sym starts in
    let sum = place-between text start gap (omega arith) in
    let column : to - from ≡ byte_len (slice_range text start gap) = omega arith in (
      omega arith,
      ap (λ (n : ℕ). (line, n)) column ∙
          ap (λ (n : ℕ). (line, byte_len (slice_range text n gap))) (sym at) ∙
          ap (λ (l : ℕ). (l, byte_len (slice_range text (start_of (whole_lines text) l) gap))) is,
    )

-- ---- the logical line of a layout line

pub same-run : (a b c d : ℕ) → a ≡ c → b ≡ d → record { start = a; end = b } ≡ (let run : Run = record { start = c; end = d } in run)
same-run a b c d p q = rw (p, q) refl

pub extent-whole : (text : List ℕ) (line : ℕ) → line < length (whole_lines text) →
    record { start = line_start text line; end = line_start text (line + 1) } ≡ extent_of (line_under text (whole_lines text) line)
extent-whole text line inside =
    let own = HasOwn-line text (whole_lines text) line (ArePieces-whole_lines text) inside in
    by own.0 own.1 own.2
  where
    few : line ≤ lf_count text
    few = omega (arith, length-whole_lines text)

    by : (first past : ℕ) → HasOwn text (whole_lines text) line first past →
        record { start = line_start text line; end = line_start text (line + 1) } ≡ extent_of (line_under text (whole_lines text) line)
    by first past has =
        let low = has.low in
        let high = has.high in
        let first_is : first ≡ line = elim (cases_lt first line) [
          | inl less ↦ absurd (both_ways true (has.rest line _ less high (piece-whole text line few)) refl)
          | inr ge ↦ omega arith
        ] in
        let past_is : line + 1 ≡ past = elim (cases_lt (line + 1) past) [
          | inl less ↦
              let within = has.inside in
              absurd (both_ways true (has.rest (line + 1) _ (omega arith) less (piece-whole text (line + 1) (omega (arith, length-whole_lines text)))) refl)
          | inr ge ↦ omega arith
        ] in
        let start = (has.start _ (subst (λ (i : ℕ). slice_get (whole_lines text) i ≡ Some (record { start = line_start text line; end = line_start text (line + 1); ln = Some (line + 1) })) (sym first_is) (piece-whole text line few))).0 in
        let end = has.end line _ past_is (piece-whole text line few) in
        same-run _ _ _ _ start end
