-- What two texts share by a change: all lines, or those left and right of the lines that an edit touches by text.
use Rattle.std.proofs.Common.{◌≡◌, ◌⊎◌, inl, inr, ℕ, zero, suc, ◌+◌, ◌-◌, ◌<◌, ◌≤◌, Bool, true, false, List, [], ◌∷◌, ◌++◌, length, map, take, drop, Option, Some, None, refl, ap, ap₂, sym, subst, ◌∙◌, arith, length-append, length-drop}
use Rattle.std.specs.Prelude.{if◌then◌else◌, slice_get, unwrap_or}
use Rattle.std.specs.List.{AllByRecursion, concat, flat_map}
use Rattle.std.proofs.lemmas.Bool.{cases_lt, le-leb, le-ltb}
use Rattle.std.proofs.lemmas.List.Concat.{flat_map-cons}
use Rattle.std.proofs.lemmas.List.{append-nil, length-map, length-take-le, take-append-drop}
use Rattle.plain_text.specs.Lines.{logical_lines}
use Rattle.plain_edits.specs.Styles.{Layer}
use Rattle.plain_edits.specs.declared.style.Span.{Span}
use Rattle.plain_screen.specs.declared.piece.Piece.{Piece}
use Rattle.plain_screen.specs.declared.screen.Line.{Line}
use Rattle.plain_screen.specs.Plan.{partner_at}
use Rattle.plain_screen.specs.Touched.{by_logical_lines, counterpart, first_of, partners_of}
use Rattle.plain_screen.specs.View.{AreEnds, layout_line_of, logical_line_of, pieces_by}
use Rattle.span_runs.specs.Spans.{spans_from, spans_in}
use Rattle.line_render.specs.Rendered.{cut_spans}
use Rattle.line_render.proofs.ForCallers.{piece-inside}
use Rattle.doc_layout.specs.Laws.{own_spans, styles_at}
use Rattle.doc_layout.proofs.ForCallers.{own_spans-alike, slice_range-none}
use Rattle.line_stays.specs.Change.{IsChangeTo, IsEditedTo, ShowTheSame, may_differ, touched_by}
use Rattle.line_stays.specs.declared.change.Change.{Change}
use Rattle.line_stays.specs.declared.change.Change.TheVariants.{Edited, Nothing, Styled}
use Rattle.line_stays.specs.Edges.{first_piece, past_piece}
use Rattle.line_stays.specs.Inner.{ArePartnersIn, AreStyledAlike, IsSharedPart, is_same_logical}
use Rattle.line_stays.specs.Laws.{CutsLines}
use Rattle.line_stays.specs.Partners.{partner_in}
use Rattle.line_stays.proofs.EditLemmas.{behind, behind-fits, counterpart-left, counterpart-none, counterpart-right, low, low-behind, low-fits, low-past, past, past-fits, same-left, same-right}
use Rattle.line_stays.proofs.NumberLemmas.{first-of-gap, gap-before, past-of-gap, some-pieces, start-by, take-cuts, take-next, take-rise}
use Rattle.line_stays.proofs.PartnerLemmas.{partners-at}
use Rattle.line_stays.proofs.SplitLemmas.{are-pieces, chars-cut, chars_in, count-after, count-before, count-groups, count-pieces, cut_text, group-at, moved-at, part-shared, partners-shared, pieces_in, place-of, whole-text}
use Rattle.line_stays.proofs.TouchLemmas.{cut-lines, cuts_of}

-- ---- styles

-- a piece of no characters has none
spans-none : (layers : List Layer) (at : ℕ) → flat_map (spans_in (record { start = at; end = at })) layers ≡ []
spans-none [] at = refl
spans-none (layer ∷ layers) at =
    flat_map-cons (spans_in (record { start = at; end = at })) layer layers ∙
    ap₂ (λ (xs ys : List Span). xs ++ ys) (ap (spans_from at) (slice_range-none layer at)) (spans-none layers at)

own-none : (layers styles : List Layer) (start end : ℕ) → start ≡ end →
    flat_map (spans_in (record { start = start; end = end })) layers ≡ flat_map (spans_in (record { start = start; end = end })) styles
own-none layers styles start end same =
    ap (λ e. flat_map (spans_in (record { start = start; end = e })) layers) (sym same) ∙ spans-none layers start ∙ sym (spans-none styles start) ∙
    ap (λ e. flat_map (spans_in (record { start = start; end = e })) styles) same

-- styles that are the same up to a gap, on a piece that ends there
styled-before : (gap : ℕ) (layers styles : List Layer) (piece twin : Piece) → ShowTheSame gap layers styles → piece.end ≤ gap → piece.start ≡ twin.start → piece.end ≡ twin.end →
    own_spans layers piece ≡ own_spans styles twin
styled-before gap layers styles piece twin same inside one other =
    ap (cut_spans piece.start piece.end) (same (record { start = piece.start; end = piece.end }) inside) ∙
    ap₂ (λ s e. cut_spans s e (flat_map (spans_in (record { start = s; end = e })) styles)) one other

-- a change that leaves the text
styled-as-was : (change : Change) (text made : List ℕ) (layers styles : List Layer) (piece twin : Piece) → ((front back : ℕ) → change ≡ Edited front back → ⊥) →
    IsChangeTo change text made layers styles → piece.end ≤ length text → piece.start ≤ piece.end → piece.start ≡ twin.start → piece.end ≡ twin.end →
    ((i : ℕ) → piece.start ≤ i → i < piece.end → may_differ change i ≡ false) → own_spans layers piece ≡ own_spans styles twin
styled-as-was (Edited front back) text made layers styles piece twin none is inside ordered one other plain = absurd (none front back refl)
styled-as-was Nothing text made layers styles piece twin none is inside ordered one other plain = styled-before (length text) layers styles piece twin is.1 inside one other
styled-as-was (Styled from) text made layers styles piece twin none is inside ordered one other plain = elim (cases_lt from piece.end) [
  | inr before ↦ styled-before from layers styles piece twin is.1 before one other
  | inl after ↦ elim (cases_lt piece.start piece.end) [
    | inl some ↦
        let last = plain (piece.end - 1) (omega (arith, some)) (omega (arith, some)) in
        absurd (let both : true ≡ false = sym (le-leb from (piece.end - 1) (omega (arith, after))) ∙ last in cc)
    | inr empty ↦
        ap (cut_spans piece.start piece.end) (own-none layers styles piece.start piece.end (omega (arith, empty, ordered))) ∙
        ap₂ (λ s e. cut_spans s e (flat_map (spans_in (record { start = s; end = e })) styles)) one other
  ]
]

-- ---- lists of no pieces

pieces-none : (ends_of : List ℕ → List ℕ) (lines : List (List ℕ)) → length lines ≡ 0 → pieces_in (cuts_of ends_of lines) ≡ 0
pieces-none ends_of [] none = refl
pieces-none ends_of (line ∷ lines) none = absurd (omega (arith, none))

module _ (ends_of : List ℕ → List ℕ) (text other : List ℕ) (was_cut : CutsLines ends_of text) (is_cut : CutsLines ends_of other) where
  abbrev lines : List (List ℕ)
  lines = logical_lines text

  abbrev others : List (List ℕ)
  others = logical_lines other

  nothing-behind : (xs : List (List ℕ)) → xs ++ [] ≡ xs
  nothing-behind xs = append-nil xs

  -- ---- the same text

  module _ (same : other ≡ text) where
    all-before : lines ≡ [] ++ (lines ++ [])
    all-before = sym (nothing-behind lines)

    all-after : others ≡ [] ++ (lines ++ [])
    all-after = ap logical_lines same ∙ all-before

    all-count : length (pieces_by ends_of other) ≡ pieces_in (cuts_of ends_of lines)
    all-count =
        omega (arith, count-after ends_of text other was_cut is_cut [] [] lines [] [] all-before all-after, pieces-none ends_of [] refl)

    pub part-all : IsSharedPart text other (pieces_by ends_of text) (pieces_by ends_of other) 0 0 (length (pieces_by ends_of other))
    part-all =
        subst (IsSharedPart text other (pieces_by ends_of text) (pieces_by ends_of other) 0 0) (sym all-count)
        (part-shared ends_of text other was_cut is_cut [] [] lines [] [] all-before all-after (inl (refl, refl)) plain plain (λ piece. refl) (λ piece. refl))
      where
        plain : Piece → Line
        plain piece = record { text = []; ln = piece.ln; cursor = []; styles = [] }

    pub as-many-all : length (pieces_by ends_of text) ≡ length (pieces_by ends_of other)
    as-many-all =
        omega (arith, count-before ends_of text other was_cut is_cut [] [] lines [] [] all-before all-after, all-count, pieces-none ends_of [] refl)

    pub partners-all : (draw redraw : Piece → Line) → ((piece : Piece) → (draw piece).ln ≡ piece.ln) → ((piece : Piece) → (redraw piece).ln ≡ piece.ln) →
        ArePartnersIn (is_same_logical text (pieces_by ends_of text) (map draw (pieces_by ends_of text)) (map redraw (pieces_by ends_of other)) 0 0) 0 0
        (length (pieces_by ends_of other))
        (partner_at (partners_of (record { start = 0; end = 0 }) (map draw (pieces_by ends_of text)) (map redraw (pieces_by ends_of other))))
    partners-all draw redraw keeps holds =
        subst (λ n. ArePartnersIn (is_same_logical text (pieces_by ends_of text) (map draw (pieces_by ends_of text)) (map redraw (pieces_by ends_of other)) 0 0) 0 0 n
        (partner_at (partners_of (record { start = 0; end = 0 }) (map draw (pieces_by ends_of text)) (map redraw (pieces_by ends_of other))))) (sym all-count)
        (partners-shared ends_of text other was_cut is_cut [] [] lines [] [] all-before all-after (inl (refl, refl)) draw redraw keeps holds
        (record { start = 0; end = 0 })
        (λ m less.
        let old_count = count-groups ends_of text was_cut draw keeps in
        let new_count = count-groups ends_of other is_cut redraw holds ∙ ap (λ t. length (logical_lines t)) same in
        let at : length (by_logical_lines (map draw (pieces_by ends_of text))) - (length (by_logical_lines (map redraw (pieces_by ends_of other))) - (0 + m)) ≡ 0 + m =
        omega (arith, less, old_count, new_count) in
        ap (λ (b : Bool). if b then Some (0 + m) else (if b then None else
        Some (length (by_logical_lines (map draw (pieces_by ends_of text))) - (length (by_logical_lines (map redraw (pieces_by ends_of other))) - (0 + m)))))
        (le-ltb (0 + m) 0 (omega arith)) ∙ ap (λ (k : ℕ). Some k) at))

    pub styled-all : (change : Change) (layers styles : List Layer) → ((front back : ℕ) → change ≡ Edited front back → ⊥) → IsChangeTo change text other layers styles →
        AreStyledAlike change (pieces_by ends_of text) (pieces_by ends_of other) layers styles 0 0 (length (pieces_by ends_of other))
    styled-all change layers styles none is = λ k piece twin less there there_too plain.
        let own = piece-inside text (pieces_by ends_of text) (0 + k) piece (are-pieces ends_of text was_cut) there in
        let alike : piece ≡ twin =
        ap (λ (o : Option Piece). unwrap_or o piece)
        (sym there ∙ ap (λ (t : List ℕ). slice_get (pieces_by ends_of t) (0 + k)) (sym same) ∙ there_too) in
        styled-as-was change text other layers styles piece twin none is own.1 own.0 (ap (λ (p : Piece). p.start) alike) (ap (λ (p : Piece). p.end) alike) plain

  -- ---- an edit

  module _ (front back : ℕ) (layers styles : List Layer) (is : IsEditedTo front back text other layers styles) where
    abbrev first : ℕ
    first = low front back text other is.before is.after is.left is.right

    abbrev next : ℕ
    next = past front back text other is.before is.after is.left is.right

    abbrev from : ℕ
    from = behind front back text other is.before is.after is.left is.right

    low-next : first < next
    low-next = low-past front back text other is.before is.after is.left is.right

    next-fits : next ≤ length others
    next-fits = past-fits front back text other is.before is.after is.left is.right

    from-fits : length others - next ≤ length lines
    from-fits = behind-fits front back text other is.before is.after is.left is.right

    -- left of it

    left-before : lines ≡ [] ++ (take first others ++ drop first lines)
    left-before =
        sym (take-append-drop first lines) ∙ ap (λ xs. xs ++ drop first lines) (same-left front back text other is.before is.after is.left is.right)

    left-after : others ≡ [] ++ (take first others ++ drop first others)
    left-after = sym (take-append-drop first others)

    cuts-from : (which : List ℕ) → CutsLines ends_of which → (n : ℕ) → n < length (logical_lines which) → 0 < pieces_in (cuts_of ends_of (drop n (logical_lines which)))
    cuts-from which cut n less =
        some-pieces (cuts_of ends_of (drop n (logical_lines which)))
        (cut-lines ends_of plain (λ piece. refl) (drop n (logical_lines which)) (all-drop (λ line. AreEnds (length line) (ends_of line)) n (logical_lines which) cut))
        (let as_many : length (cuts_of ends_of (drop n (logical_lines which))) ≡ length (drop n (logical_lines which)) =
        length-map (drop n (logical_lines which)) (λ line. (line, ends_of line)) in
        omega (arith, less, as_many, length-drop n (logical_lines which)))
      where
        plain : Piece → Line
        plain piece = record { text = []; ln = piece.ln; cursor = []; styles = [] }

        all-drop : (P : List ℕ → Type 0) (n : ℕ) (xs : List (List ℕ)) → AllByRecursion P xs → AllByRecursion P (drop n xs)
        all-drop P zero xs all = all
        all-drop P (suc n) [] all = tt
        all-drop P (suc n) (x ∷ xs) all = all-drop P n xs all.1

    left-tails : ((drop first lines ≡ []) × (drop first others ≡ [])) ⊎
        ((0 < pieces_in (cuts_of ends_of (drop first lines))) × (0 < pieces_in (cuts_of ends_of (drop first others))))
    left-tails = inr (cuts-from text was_cut first (low-fits front back text other is.before is.after is.left is.right), cuts-from other is_cut first (omega (arith, low-next, next-fits)))

    abbrev left : ℕ
    left = first_piece other (pieces_by ends_of other) (layout_line_of (pieces_by ends_of other) front)

    left-count : left ≡ pieces_in (cuts_of ends_of (take first others))
    left-count = first-of-gap ends_of other is_cut front ∙ ap pieces_in (take-cuts ends_of first others)

    abbrev plain-line : Piece → Line
    plain-line piece = record { text = []; ln = piece.ln; cursor = []; styles = [] }

    pub part-left : IsSharedPart text other (pieces_by ends_of text) (pieces_by ends_of other) 0 0 left
    part-left =
        subst (IsSharedPart text other (pieces_by ends_of text) (pieces_by ends_of other) 0 0) (sym left-count)
        (part-shared ends_of text other was_cut is_cut [] [] (take first others) (drop first lines) (drop first others) left-before left-after left-tails plain-line plain-line
        (λ piece. refl) (λ piece. refl))

    pub styled-left : AreStyledAlike (Edited front back) (pieces_by ends_of text) (pieces_by ends_of other) layers styles 0 0 left
    styled-left = λ k piece twin less there there_too plain.
        let moved = moved-at ends_of text other was_cut is_cut [] [] (take first others) (drop first lines) (drop first others) left-before left-after k piece twin
        (omega (arith, less, left-count)) there there_too in
        let high : piece.end ≤ front =
        omega (
          arith,
          moved.high,
          start-by ends_of other is_cut front,
          ap chars_in (take-cuts ends_of first others),
          (let none : chars_in (cuts_of ends_of []) ≡ 0 = refl in none),
        ) in
        styled-before front layers styles piece twin is.styled high (omega (arith, moved.starts)) (omega (arith, moved.ends))

    -- right of it

    right-before : lines ≡ take from lines ++ (drop next others ++ [])
    right-before =
        sym (take-append-drop from lines) ∙
        ap (λ xs. take from lines ++ xs) (same-right front back text other is.before is.after is.left is.right ∙ sym (nothing-behind (drop next others)))

    right-after : others ≡ take next others ++ (drop next others ++ [])
    right-after = sym (take-append-drop next others) ∙ ap (λ xs. take next others ++ xs) (sym (nothing-behind (drop next others)))

    abbrev new : ℕ
    new = past_piece (pieces_by ends_of other) (layout_line_of (pieces_by ends_of other) (length other - back))

    abbrev n : ℕ
    n = length (pieces_by ends_of other) - new

    abbrev old : ℕ
    old = length (pieces_by ends_of text) - n

    next-is : suc (logical_line_of other (length other - back)).index ≡ next
    next-is = omega arith

    new-is : new ≡ pieces_in (cuts_of ends_of (take next others))
    new-is =
        past-of-gap ends_of other is_cut (length other - back) ∙ ap (λ i. pieces_in (take i (cut_text ends_of other is_cut))) next-is ∙
        ap pieces_in (take-cuts ends_of next others)

    n-is : n ≡ pieces_in (cuts_of ends_of (drop next others))
    n-is =
        omega (
          arith,
          new-is,
          count-after ends_of text other was_cut is_cut (take from lines) (take next others) (drop next others) [] [] right-before right-after,
          pieces-none ends_of [] refl,
        )

    old-is : old ≡ pieces_in (cuts_of ends_of (take from lines))
    old-is =
        omega (
          arith,
          n-is,
          count-before ends_of text other was_cut is_cut (take from lines) (take next others) (drop next others) [] [] right-before right-after,
          pieces-none ends_of [] refl,
        )

    pub new-inside : new ≤ length (pieces_by ends_of other)
    new-inside =
        omega (
          arith,
          new-is,
          count-after ends_of text other was_cut is_cut (take from lines) (take next others) (drop next others) [] [] right-before right-after,
        )

    pub n-inside : n ≤ length (pieces_by ends_of text)
    n-inside =
        omega (
          arith,
          n-is,
          count-before ends_of text other was_cut is_cut (take from lines) (take next others) (drop next others) [] [] right-before right-after,
        )

    pub left-new : left ≤ new
    left-new =
        omega (
          arith,
          left-count,
          new-is,
          ap pieces_in (take-cuts ends_of first others),
          ap pieces_in (take-cuts ends_of next others),
          take-rise (cuts_of ends_of others) first next (omega (arith, low-next)),
        )

    pub left-old : left ≤ old
    left-old =
        omega (
          arith,
          left-count,
          old-is,
          ap (λ xs. pieces_in (cuts_of ends_of xs)) (same-left front back text other is.before is.after is.left is.right),
          ap pieces_in (take-cuts ends_of first lines),
          ap pieces_in (take-cuts ends_of from lines),
          take-rise (cuts_of ends_of lines) first from (low-behind front back text other is.before is.after is.left is.right),
        )

    places : (At : ℕ → ℕ → ℕ → Type 0) → At (pieces_in (cuts_of ends_of (take from lines))) (pieces_in (cuts_of ends_of (take next others)))
        (pieces_in (cuts_of ends_of (drop next others))) → At old new n
    places At is_there =
        subst (λ o. At o new n) (sym old-is)
        (subst (λ m. At (pieces_in (cuts_of ends_of (take from lines))) m n) (sym new-is)
        (subst (λ k. At (pieces_in (cuts_of ends_of (take from lines))) (pieces_in (cuts_of ends_of (take next others))) k) (sym n-is) is_there))

    pub part-right : IsSharedPart text other (pieces_by ends_of text) (pieces_by ends_of other) old new n
    part-right =
        places (λ o m k. IsSharedPart text other (pieces_by ends_of text) (pieces_by ends_of other) o m k)
        (part-shared ends_of text other was_cut is_cut (take from lines) (take next others) (drop next others) [] [] right-before right-after (inl (refl, refl)) plain-line
        plain-line (λ piece. refl) (λ piece. refl))

    pub styled-right : AreStyledAlike (Edited front back) (pieces_by ends_of text) (pieces_by ends_of other) layers styles old new n
    styled-right = λ k piece twin less there there_too plain.
        let moved = moved-at ends_of text other was_cut is_cut (take from lines) (take next others) (drop next others) [] [] right-before right-after k piece twin
        (omega (arith, less, n-is)) (ap (λ o. slice_get (pieces_by ends_of text) (o + k)) (sym old-is) ∙ there)
        (ap (λ m. slice_get (pieces_by ends_of other) (m + k)) (sym new-is) ∙ there_too) in
        let one = ap length (whole-text ends_of text other was_cut is_cut (take from lines) (take next others) (drop next others) [] [] right-before right-after text
        (take from lines) [] right-before) in
        let two = ap length (whole-text ends_of text other was_cut is_cut (take from lines) (take next others) (drop next others) [] [] right-before right-after other
        (take next others) [] right-after) in
        let a = chars-cut ends_of (take from lines) in
        let b = chars-cut ends_of (take next others) in
        let c = chars-cut ends_of (drop next others) in
        let long : length text ≡ chars_in (cuts_of ends_of (take from lines)) + chars_in (cuts_of ends_of (drop next others)) =
        omega (arith, one, a, c, length-append (concat (take from lines)) (concat (drop next others) ++ []), length-append (concat (drop next others)) []) in
        let wide : length other ≡ chars_in (cuts_of ends_of (take next others)) + chars_in (cuts_of ends_of (drop next others)) =
        omega (arith, two, b, c, length-append (concat (take next others)) (concat (drop next others) ++ []), length-append (concat (drop next others)) []) in
        let behind_gap = behind-gap k (omega (arith, less, n-is)) in
        let low_gap : length text - back ≤ piece.start = omega (arith, moved.low, long, wide, behind_gap, is.before, is.after) in
        own_spans-alike layers styles piece twin (omega (arith, moved.starts, moved.ends, moved.ordered)) is.as_many
        (λ j few.
        let at : length text - back + (piece.start + j - (length text - back)) ≡ piece.start + j = omega (arith, low_gap) in
        let too : length other - back + (piece.start + j - (length text - back)) ≡ twin.start + j =
        omega (arith, low_gap, moved.starts, long, wide, is.before, is.after) in
        ap (styles_at layers) (sym at) ∙
        is.restyled (piece.start + j - (length text - back)) (omega (arith, few, low_gap, moved.high, long, is.before)) ∙ ap (styles_at styles) too)
      where
        behind-gap : (k : ℕ) → k < pieces_in (cuts_of ends_of (drop next others)) → length other - back < chars_in (cuts_of ends_of (take next others))
        behind-gap k less = by (gap-before ends_of other is_cut (length other - back))
          where
            by : ((logical_line_of other (length other - back)).index + 1 ≡ length others) ⊎
                (length other - back < chars_in (take (suc (logical_line_of other (length other - back)).index) (cut_text ends_of other is_cut))) →
                length other - back < chars_in (cuts_of ends_of (take next others))
            by (inl all) =
                absurd (omega (arith, less, pieces-none ends_of (drop next others) (omega (arith, all, length-drop next others))))
            by (inr before) =
                omega (
                  arith,
                  before,
                  ap (λ i. chars_in (take i (cut_text ends_of other is_cut))) next-is,
                  ap chars_in (take-cuts ends_of next others),
                )

    -- ---- partners

    module _ (draw redraw : Piece → Line) (keeps : (piece : Piece) → (draw piece).ln ≡ piece.ln) (holds : (piece : Piece) → (redraw piece).ln ≡ piece.ln) where
      abbrev before : List Line
      before = map draw (pieces_by ends_of text)

      abbrev after : List Line
      after = map redraw (pieces_by ends_of other)

      abbrev partner : ℕ → Option (ℕ × Bool)
      partner = partner_at (partners_of (touched_by (Edited front back) other) before after)

      counts : (m : ℕ) → counterpart (touched_by (Edited front back) other) (length (by_logical_lines before)) (length (by_logical_lines after)) m ≡
          counterpart (touched_by (Edited front back) other) (length lines) (length others) m
      counts m =
          ap₂ (λ a b. counterpart (touched_by (Edited front back) other) a b m) (count-groups ends_of text was_cut draw keeps) (count-groups ends_of other is_cut redraw holds)

      pub partners-left : ArePartnersIn (is_same_logical text (pieces_by ends_of text) before after 0 0) 0 0 left partner
      partners-left =
          subst (λ k. ArePartnersIn (is_same_logical text (pieces_by ends_of text) before after 0 0) 0 0 k partner) (sym left-count)
          (partners-shared ends_of text other was_cut is_cut [] [] (take first others) (drop first lines) (drop first others) left-before left-after left-tails draw redraw keeps
          holds (touched_by (Edited front back) other)
          (λ m less.
          let few : m < first = omega (arith, less, length-take-le first others (omega (arith, low-next, next-fits))) in
          let here : 0 + m ≡ m = omega arith in
          ap (counterpart (touched_by (Edited front back) other) (length (by_logical_lines before)) (length (by_logical_lines after))) here ∙ counts m ∙
          counterpart-left front back text other is.before is.after is.left is.right m few ∙ ap (λ (i : ℕ). Some i) (sym here)))

      pub partners-right : ArePartnersIn (is_same_logical text (pieces_by ends_of text) before after old new) old new n partner
      partners-right =
          places (λ o m k. ArePartnersIn (is_same_logical text (pieces_by ends_of text) before after o m) o m k partner)
          (partners-shared ends_of text other was_cut is_cut (take from lines) (take next others) (drop next others) [] [] right-before right-after (inl (refl, refl)) draw
          redraw keeps holds (touched_by (Edited front back) other)
          (λ m less.
          let few : next + m < length others = omega (arith, less, length-drop next others) in
          let one : length (take next others) ≡ next = length-take-le next others next-fits in
          let two : length (take from lines) ≡ from = length-take-le from lines (omega arith) in
          ap (λ i. counterpart (touched_by (Edited front back) other) (length (by_logical_lines before)) (length (by_logical_lines after)) (i + m)) one ∙ counts (next + m) ∙
          counterpart-right front back text other is.before is.after is.left is.right m few ∙ ap (λ (i : ℕ). Some (i + m)) (sym two)))

      -- the lines between have none
      pub partners-between : (index : ℕ) → left ≤ index → index < new → partner index ≡ None
      partners-between index low_index high_index =
          let cs = cut_text ends_of other is_cut in
          let left_is : left ≡ pieces_in (take first cs) = first-of-gap ends_of other is_cut front in
          let new_is : new ≡ pieces_in (take next cs) =
          past-of-gap ends_of other is_cut (length other - back) ∙ ap (λ i. pieces_in (take i cs)) next-is in
          let place = place-of cs index (omega (arith, high_index, new-inside, count-pieces ends_of other is_cut)) in
          let j = place.0 in
          let cut = place.1 in
          let after_next = take-next cs j cut place.2.is in
          let past_first : first ≤ j = elim (cases_lt j first) [
            | inr fine ↦ fine
            | inl before_first ↦ absurd (omega (arith, low_index, left_is, place.2.high, after_next, take-rise cs (suc j) first (omega (arith, before_first))))
          ] in
          let before_next : j < next = elim (cases_lt j next) [
            | inl fine ↦ fine
            | inr behind_next ↦ absurd (omega (arith, high_index, new_is, place.2.low, take-rise cs next j behind_next))
          ] in
          let group = group-at ends_of other is_cut redraw holds j cut place.2.is (omega (arith, place.2.fits, count-pieces ends_of other is_cut)) in
          let at : index ≡ first_of (by_logical_lines after) j + (index - pieces_in (take j cs)) = omega (arith, group.from, place.2.low) in
          ap partner at ∙
          partners-at (touched_by (Edited front back) other) before after j (index - pieces_in (take j cs)) group.lines group.is
          (omega (arith, place.2.low, place.2.high, group.long)) ∙
          ap (λ o. partner_in (by_logical_lines before) o group.lines (index - pieces_in (take j cs)))
          (counts j ∙ counterpart-none front back text other is.before is.after is.left is.right j past_first before_next)
