-- The pieces that marks show, put over a layer one after the other, are the marks put over it.
use Rattle.std.proofs.Common.{◌≡◌, ℕ, suc, ◌+◌, ◌<◌, ◌≤◌, Bool, true, false, ◌&&◌, if◌then◌else◌, ◌==◌, List, [], ◌∷◌, length, map, fold, Option, Some, None, refl, ap, ap₂, subst, sym, ◌∙◌, arith}
use Rattle.std.specs.Prelude.{nat_le, nat_lt}
use Rattle.std.proofs.lemmas.Bool.{eqb-true}
use Rattle.std.proofs.lemmas.Bool.Decides.{nat_tests}
use Rattle.plain_edits.specs.declared.style.Span.{Span}
use Rattle.plain_edits.specs.Styles.{Layer, covers, or_style, span_style, spanned_style}
use Rattle.span_runs.specs.Spans.{onto_spans, spans_from}
use Rattle.span_styles.specs.Layers.{LieIn, RiseWithin, spanned_from}
use Rattle.stale_spans.specs.Marks.{layer_under, piece_of, restyled}

-- ---- spans that rise

abbrev pub Rise : ℕ → ℕ → List Span → Type 0
Rise from to [] = from ≤ to
Rise from to (span ∷ spans) = (from ≤ span.start) × (span.start < span.end) × Rise span.end to spans

Rise-earlier : (from at to : ℕ) (spans : List Span) → from ≤ at → Rise at to spans → Rise from to spans
Rise-earlier from at to [] up rise = omega (arith, up, rise)
Rise-earlier from at to (span ∷ spans) up rise = (omega (arith, up, rise.0), rise.1, rise.2)

Rise-le : (from to : ℕ) (spans : List Span) → Rise from to spans → from ≤ to
Rise-le from to [] rise = rise
Rise-le from to (span ∷ spans) rise = let rest = Rise-le span.end to spans rise.2 in omega (arith, rest, rise.0, rise.1)

Rise-onto : (from to style : ℕ) (spans : List Span) → Rise (from + 1) to spans → Rise from to (onto_spans from (Some style) spans)
Rise-onto from to style [] rise = (omega arith, omega arith, rise)
Rise-onto from to style (next ∷ spans) rise = by (next.start == from + 1 && next.style == style)
  where
    by : (b : Bool) →
        Rise from to (if b then record { start = from; end = next.end; style = style } ∷ spans else record { start = from; end = from + 1; style = style } ∷ next ∷ spans)
    by true = (omega arith, omega (arith, rise.0, rise.1), rise.2)
    by false = (omega arith, omega arith, rise)

pub Rise-spans_from : (from : ℕ) (marks : Layer) → Rise from (from + length marks) (spans_from from marks)
Rise-spans_from from [] = omega arith
Rise-spans_from from (mark ∷ marks) = by mark (Rise-spans_from (from + 1) marks)
  where
    by : (mark : Option ℕ) → Rise (from + 1) (from + 1 + length marks) (spans_from (from + 1) marks) →
        Rise from (from + suc (length marks)) (onto_spans from mark (spans_from (from + 1) marks))
    by None rest =
        let long : from + 1 + length marks ≡ from + suc (length marks) = omega arith in
        subst (λ to. Rise from to (spans_from (from + 1) marks)) long (Rise-earlier from (from + 1) (from + 1 + length marks) (spans_from (from + 1) marks) (omega arith) rest)
    by (Some style) rest =
        let long : from + 1 + length marks ≡ from + suc (length marks) = omega arith in
        subst (λ to. Rise from to (onto_spans from (Some style) (spans_from (from + 1) marks))) long (Rise-onto from (from + 1 + length marks) style (spans_from (from + 1) marks) rest)

-- their pieces rise too
pub RiseWithin-pieces : (means : ℕ → Option ℕ) (from to : ℕ) (spans : List Span) → Rise from to spans → RiseWithin from to (map (piece_of means) spans)
RiseWithin-pieces means from to [] rise = rise
RiseWithin-pieces means from to (span ∷ spans) rise =
    (rise.0, omega (arith, rise.1), within (means span.style), RiseWithin-pieces means span.end to spans rise.2)
  where
    within : (style : Option ℕ) → LieIn (record { start = span.start; end = span.end }) (restyled span style)
    within None = tt
    within (Some style) = ((omega arith, omega (arith, rise.1), omega arith), tt)

-- ---- one piece

module _ (means : ℕ → Option ℕ) where
  -- it gives the characters that its mark covers what that stands for
  piece-style : (mark : Span) (index : ℕ) (style : Option ℕ) →
      spanned_style (piece_of means mark).range (piece_of means mark).spans index style ≡ (if covers mark index then means mark.style else style)
  piece-style mark index style = by (means mark.style) (covers mark index) refl
    where
      by : (found : Option ℕ) (b : Bool) → covers mark index ≡ b →
          (if nat_le mark.start index && nat_lt index mark.end then span_style (restyled mark found) index else style) ≡ (if b then found else style)
      by None true is = ap (λ c. if c then None else style) is
      by (Some other) true is =
          ap₂ (λ c d. if c then or_style None (if d then Some other else None) else style) is is
      by found false is = ap (λ c. if c then span_style (restyled mark found) index else style) is

  abbrev put : ℕ → Span → Layer → Layer
  put index mark layer = spanned_from index layer (piece_of means mark)

  put-first : (index : ℕ) (mark : Span) (style : Option ℕ) (layer : Layer) →
      put index mark (style ∷ layer) ≡ (if covers mark index then means mark.style else style) ∷ put (index + 1) mark layer
  put-first index mark style layer = ap (λ s. s ∷ put (index + 1) mark layer) (piece-style mark index style)

  -- a piece that ends before leaves all as it is
  put-past : (index : ℕ) (mark : Span) (layer : Layer) → mark.end ≤ index → put index mark layer ≡ layer
  put-past index mark [] past = refl
  put-past index mark (style ∷ layer) past =
      put-first index mark style layer ∙
      ap₂ (λ b ss. (if b then means mark.style else style) ∷ ss) (uncovered mark.start mark.end index past) (put-past (index + 1) mark layer (omega (arith, past)))
    where
      uncovered : (start end index : ℕ) → end ≤ index → (nat_le start index && nat_lt index end) ≡ false
      uncovered start end index past = grind (arith, nat_tests)

  -- where it begins before makes no difference
  put-same : (start other end style index : ℕ) (layer : Layer) → start ≤ index → other ≤ index →
      put index (record { start = start; end = end; style = style }) layer ≡ put index (record { start = other; end = end; style = style }) layer
  put-same start other end style index [] low below = refl
  put-same start other end style index (old ∷ layer) low below =
      put-first index (record { start = start; end = end; style = style }) old layer ∙
      ap₂ (λ b ss. (if b then means style else old) ∷ ss) (same start other end index low below)
      (put-same start other end style (index + 1) layer (omega (arith, low)) (omega (arith, below))) ∙
      sym (put-first index (record { start = other; end = end; style = style }) old layer)
    where
      same : (start other end index : ℕ) → start ≤ index → other ≤ index → (nat_le start index && nat_lt index end) ≡ (nat_le other index && nat_lt index end)
      same start other end index low below = grind (arith, nat_tests)

  abbrev put_all : ℕ → List Span → Layer → Layer
  put_all index marks layer = fold (spanned_from index) layer (map (piece_of means) marks)

  -- pieces right of a character leave it
  put_all-right : (index to : ℕ) (marks : List Span) (style : Option ℕ) (layer : Layer) → Rise (index + 1) to marks →
      put_all index marks (style ∷ layer) ≡ style ∷ put_all (index + 1) marks layer
  put_all-right index to [] style layer rise = refl
  put_all-right index to (mark ∷ marks) style layer rise =
      ap (put_all index marks)
      (put-first index mark style layer ∙
      ap (λ b. (if b then means mark.style else style) ∷ put (index + 1) mark layer) (left mark.start mark.end index (omega (arith, rise.0)))) ∙
      put_all-right index to marks style (put (index + 1) mark layer)
      (Rise-earlier (index + 1) mark.end to marks (omega (arith, rise.0, rise.1)) rise.2)
    where
      left : (start end index : ℕ) → index < start → (nat_le start index && nat_lt index end) ≡ false
      left start end index below = grind (arith, nat_tests)

  -- a mark of one more character before the others
  put_all-onto : (index to mark : ℕ) (marks : List Span) (style : Option ℕ) (layer : Layer) → Rise (index + 1) to marks →
      put_all index (onto_spans index (Some mark) marks) (style ∷ layer) ≡ means mark ∷ put_all (index + 1) marks layer
  put_all-onto index to mark marks style layer rise = by marks rise
    where
      at : (end : ℕ) → index < end → (nat_le index index && nat_lt index end) ≡ true
      at end high = grind (arith, nat_tests)

      -- the new mark alone, over the first character
      alone : put index (record { start = index; end = index + 1; style = mark }) (style ∷ layer) ≡ means mark ∷ layer
      alone =
          put-first index (record { start = index; end = index + 1; style = mark }) style layer ∙
          ap₂ (λ b ss. (if b then means mark else style) ∷ ss) (at (index + 1) (omega arith))
          (put-past (index + 1) (record { start = index; end = index + 1; style = mark }) layer (omega arith))

      by : (marks : List Span) → Rise (index + 1) to marks →
          put_all index (onto_spans index (Some mark) marks) (style ∷ layer) ≡ means mark ∷ put_all (index + 1) marks layer
      by [] rise = alone
      by (next ∷ marks) rise = joined (next.start == index + 1) (next.style == mark) (eqb-true next.start (index + 1)) (eqb-true next.style mark)
        where
          apart : put_all index (next ∷ marks) (put index (record { start = index; end = index + 1; style = mark }) (style ∷ layer)) ≡
              means mark ∷ put_all (index + 1) (next ∷ marks) layer
          apart = ap (put_all index (next ∷ marks)) alone ∙ put_all-right index to (next ∷ marks) (means mark) layer rise

          joined : (b c : Bool) → (b ≡ true → next.start ≡ index + 1) → (c ≡ true → next.style ≡ mark) →
              put_all index (if b && c then record { start = index; end = next.end; style = mark } ∷ marks
              else record { start = index; end = index + 1; style = mark } ∷ next ∷ marks) (style ∷ layer) ≡
              means mark ∷ put_all (index + 1) (next ∷ marks) layer
          joined true true meets same =
              ap (put_all index marks)
              (put-first index (record { start = index; end = next.end; style = mark }) style layer ∙
              ap (λ b. (if b then means mark else style) ∷ put (index + 1) (record { start = index; end = next.end; style = mark }) layer)
              (at next.end (omega (arith, rise.0, rise.1)))) ∙
              put_all-right index to marks (means mark) (put (index + 1) (record { start = index; end = next.end; style = mark }) layer)
              (Rise-earlier (index + 1) next.end to marks (omega (arith, rise.0, rise.1)) rise.2) ∙
              ap (λ ss. means mark ∷ put_all (index + 1) marks ss)
              (put-same index next.start next.end mark (index + 1) layer (omega arith) (omega (arith, meets refl)) ∙
              ap (λ s. put (index + 1) (record { start = next.start; end = next.end; style = s }) layer) (sym (same refl)))
          joined true false meets same = apart
          joined false c meets same = apart

  -- THE PIECES of all marks, one after the other
  pub put_all-marks : (index : ℕ) (marks layer : Layer) → length marks ≡ length layer →
      put_all index (spans_from index marks) layer ≡ layer_under means marks layer
  put_all-marks index [] [] long = refl
  put_all-marks index [] (style ∷ layer) long = absurd (omega (arith, long))
  put_all-marks index (mark ∷ marks) [] long = absurd (omega (arith, long))
  put_all-marks index (None ∷ marks) (style ∷ layer) long =
      put_all-right index (index + 1 + length marks) (spans_from (index + 1) marks) style layer (Rise-spans_from (index + 1) marks) ∙
      ap (λ ss. style ∷ ss) (put_all-marks (index + 1) marks layer (omega (arith, long)))
  put_all-marks index (Some mark ∷ marks) (style ∷ layer) long =
      put_all-onto index (index + 1 + length marks) mark (spans_from (index + 1) marks) style layer (Rise-spans_from (index + 1) marks) ∙
      ap (λ ss. means mark ∷ ss) (put_all-marks (index + 1) marks layer (omega (arith, long)))
