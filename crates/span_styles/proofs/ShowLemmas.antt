-- Lemmas on the spans that a layer shows.
use Rattle.std.proofs.Common.{◌≡◌, ◌≢◌, ◌⊎◌, inl, inr, ℕ, zero, suc, ◌+◌, ◌-◌, ◌<◌, ◌≤◌, Bool, true, false, ◌&&◌, if◌then◌else◌, ◌==◌, List, [], ◌∷◌, ◌++◌, take, drop, min, replicate, Option, Some, None, slice_get, refl, ap, ap₂, sym, subst, ◌∙◌, arith, append_assoc, append-nil}
use Rattle.std.proofs.lemmas.Bool.{cases_lt, eq-eqb, ne_eqb}
use Rattle.std.proofs.lemmas.List.{drop-replicate}
use Rattle.plain_text.specs.declared.run.Run.{Run}
use Rattle.plain_edits.specs.declared.style.Span.{Span}
use Rattle.plain_edits.specs.Styles.{Layer}
use Rattle.span_runs.specs.Spans.{onto_spans, spans_from, spans_in}
use Rattle.span_styles.specs.Layers.{unstyled}
use Rattle.span_styles.specs.Inner.{one_span}

-- the first span, if there is one, starts from here on
abbrev StartsFrom : ℕ → List Span → Type 0
StartsFrom from [] = Unit {0}
StartsFrom from (span ∷ spans) = from ≤ span.start

starts_later : (from to : ℕ) (spans : List Span) → to ≤ from → StartsFrom from spans → StartsFrom to spans
starts_later from to [] up starts = tt
starts_later from to (span ∷ spans) up starts = omega (arith, starts)

onto_starts : (index style : ℕ) (spans : List Span) → StartsFrom index (onto_spans index (Some style) spans)
onto_starts index style [] = omega arith
onto_starts index style (next ∷ spans) = by (next.start == index + 1 && next.style == style)
  where
    by : (b : Bool) → StartsFrom index (if b then record { start = index; end = next.end; style = style } ∷ spans else record { start = index; end = index + 1; style = style } ∷ next ∷ spans)
    by true = omega arith
    by false = omega arith

spans_from-starts : (from : ℕ) (layer : Layer) → StartsFrom from (spans_from from layer)
spans_from-starts from [] = tt
spans_from-starts from (None ∷ layer) = starts_later (from + 1) from (spans_from (from + 1) layer) (omega arith) (spans_from-starts (from + 1) layer)
spans_from-starts from (Some style ∷ layer) = onto_starts from style (spans_from (from + 1) layer)

-- a character does not join a span that starts later
onto_later : (index style : ℕ) (spans : List Span) → StartsFrom (index + 2) spans → onto_spans index (Some style) spans ≡ record { start = index; end = index + 1; style = style } ∷ spans
onto_later index style [] starts = refl
onto_later index style (next ∷ spans) starts = by (next.start == index + 1) (ne_eqb next.start (index + 1) (λ is. omega (arith, starts, is)))
  where
    by : (b : Bool) → b ≡ false →
        (if b && next.style == style then record { start = index; end = next.end; style = style } ∷ spans else record { start = index; end = index + 1; style = style } ∷ next ∷ spans) ≡
        record { start = index; end = index + 1; style = style } ∷ next ∷ spans
    by true is = cc
    by false is = refl

-- nor one of another style
onto_other : (index style other : ℕ) (spans : List Span) → other ≢ style →
    onto_spans index (Some style) (onto_spans (index + 1) (Some other) spans) ≡ record { start = index; end = index + 1; style = style } ∷ onto_spans (index + 1) (Some other) spans
onto_other index style other spans differ = all spans
  where
    apart : (end : ℕ) (more : List Span) → onto_spans index (Some style) (record { start = index + 1; end = end; style = other } ∷ more) ≡
        record { start = index; end = index + 1; style = style } ∷ record { start = index + 1; end = end; style = other } ∷ more
    apart end more = by (index + 1 == index + 1) (other == style) (ne_eqb other style differ)
      where
        by : (b d : Bool) → d ≡ false →
            (if b && d then record { start = index; end = end; style = style } ∷ more
            else record { start = index; end = index + 1; style = style } ∷ record { start = index + 1; end = end; style = other } ∷ more) ≡
            record { start = index; end = index + 1; style = style } ∷ record { start = index + 1; end = end; style = other } ∷ more
        by true true is = cc
        by true false is = refl
        by false d is = refl

    chosen : (next : Span) (more : List Span) (b : Bool) →
        onto_spans index (Some style) (if b then record { start = index + 1; end = next.end; style = other } ∷ more else record { start = index + 1; end = index + 1 + 1; style = other } ∷ next ∷ more) ≡
        record { start = index; end = index + 1; style = style } ∷ (if b then record { start = index + 1; end = next.end; style = other } ∷ more else record { start = index + 1; end = index + 1 + 1; style = other } ∷ next ∷ more)
    chosen next more true = apart next.end more
    chosen next more false = apart (index + 1 + 1) (next ∷ more)

    all : (spans : List Span) → onto_spans index (Some style) (onto_spans (index + 1) (Some other) spans) ≡ record { start = index; end = index + 1; style = style } ∷ onto_spans (index + 1) (Some other) spans
    all [] = apart (index + 1 + 1) []
    all (next ∷ more) = chosen next more (next.start == index + 1 + 1 && next.style == other)

onto_apart : (index style : ℕ) (rest : Layer) → slice_get rest 0 ≢ Some (Some style) →
    onto_spans index (Some style) (spans_from (index + 1) rest) ≡ record { start = index; end = index + 1; style = style } ∷ spans_from (index + 1) rest
onto_apart index style [] other = refl
onto_apart index style (None ∷ rest) other =
    let two : index + 1 + 1 ≡ index + 2 = omega arith in
    onto_later index style (spans_from (index + 1 + 1) rest) (subst (λ n. StartsFrom n (spans_from (index + 1 + 1) rest)) two (spans_from-starts (index + 1 + 1) rest))
onto_apart index style (Some first ∷ rest) other = onto_other index style first (spans_from (index + 1 + 1) rest) (λ same. other (ap (λ s. Some (Some s)) same))

-- ---- characters of one style, and what comes after them

pub spans_from-unstyled : (at n : ℕ) (rest : Layer) → spans_from at (replicate n None ++ rest) ≡ spans_from (at + n) rest
spans_from-unstyled at zero rest = let none : at ≡ at + 0 = omega arith in ap (λ i. spans_from i rest) none
spans_from-unstyled at (suc n) rest =
    let next : at + 1 + n ≡ at + suc n = omega arith in spans_from-unstyled (at + 1) n rest ∙ ap (λ i. spans_from i rest) next

pub spans_from-styled : (at n style : ℕ) (rest : Layer) → slice_get rest 0 ≢ Some (Some style) →
    spans_from at (replicate (suc n) (Some style) ++ rest) ≡ record { start = at; end = at + suc n; style = style } ∷ spans_from (at + suc n) rest
spans_from-styled at zero style rest other = onto_apart at style rest other
spans_from-styled at (suc n) style rest other =
    ap (onto_spans at (Some style)) (spans_from-styled (at + 1) n style rest other) ∙ joins ∙
    (let next : at + 1 + suc n ≡ at + suc (suc n) = omega arith in ap (λ end. record { start = at; end = end; style = style } ∷ spans_from end rest) next)
  where
    joins : onto_spans at (Some style) (record { start = at + 1; end = at + 1 + suc n; style = style } ∷ spans_from (at + 1 + suc n) rest) ≡
        record { start = at; end = at + 1 + suc n; style = style } ∷ spans_from (at + 1 + suc n) rest
    joins = by (at + 1 == at + 1) (style == style) (eq-eqb (at + 1) (at + 1) refl) (eq-eqb style style refl)
      where
        by : (b d : Bool) → b ≡ true → d ≡ true →
            (if b && d then record { start = at; end = at + 1 + suc n; style = style } ∷ spans_from (at + 1 + suc n) rest
            else record { start = at; end = at + 1; style = style } ∷ record { start = at + 1; end = at + 1 + suc n; style = style } ∷ spans_from (at + 1 + suc n) rest) ≡
            record { start = at; end = at + 1 + suc n; style = style } ∷ spans_from (at + 1 + suc n) rest
        by true true one two = refl
        by true false one two = cc
        by false d one two = cc

-- ---- the walk over a range

-- what was shown with what the characters that are ahead show
pub record IsShowing (spans : List Span) (walk : Layer) (at end : ℕ) (all : List Span) : Type 0 where
  pub so_far : spans ++ spans_from at (take (end - at) walk) ≡ all

pub take_none : {X : Type 0} (n : ℕ) → take {A = X} n [] ≡ []
take_none zero = refl
take_none (suc n) = refl

-- a front of what begins with characters of one style
pub take-front : (n left len : ℕ) (walk : Layer) (style : Option ℕ) → n ≤ len → n ≤ left → walk ≡ replicate len style ++ drop len walk →
    take left walk ≡ replicate n style ++ take (left - n) (drop n walk)
take-front zero left len walk style low few is = let all : left ≡ left - 0 = omega arith in ap (λ k. take k walk) all
take-front (suc n) zero len walk style low few is = absurd (omega arith)
take-front (suc n) (suc left) zero walk style low few is = absurd (omega arith)
take-front (suc n) (suc left) (suc len) [] style low few is = absurd (let no = is in cc)
take-front (suc n) (suc left) (suc len) (x ∷ walk) style low few is =
    let first : x ≡ style = cc in
    let rest : walk ≡ replicate len style ++ drop len walk = cc in
    let less : left - n ≡ suc left - suc n = omega arith in
    ap₂ (λ y ys. y ∷ ys) first (take-front n left len walk style (omega arith) (omega arith) rest ∙ ap (λ k. replicate n style ++ take k (drop n walk)) less)

slice_get-taken : (k : ℕ) (xs : Layer) (style : Option ℕ) → slice_get (take k xs) 0 ≡ Some style → slice_get xs 0 ≡ Some style
slice_get-taken zero xs style is = cc
slice_get-taken (suc k) [] style is = is
slice_get-taken (suc k) (x ∷ xs) style is = is

pub slice_get-dropped : (n : ℕ) (xs : Layer) → slice_get (drop n xs) 0 ≡ slice_get xs n
slice_get-dropped zero xs = refl
slice_get-dropped (suc n) [] = refl
slice_get-dropped (suc n) (x ∷ xs) = slice_get-dropped n xs

front_spans : (at n : ℕ) (style : Option ℕ) (rest : Layer) → 0 < n → slice_get rest 0 ≢ Some style →
    spans_from at (replicate n style ++ rest) ≡ one_span at (at + n) style ++ spans_from (at + n) rest
front_spans at zero style rest some other = absurd (omega arith)
front_spans at (suc n) None rest some other = spans_from-unstyled at (suc n) rest
front_spans at (suc n) (Some style) rest some other = spans_from-styled at n style rest other

pub IsShowing-next : (spans spans' : List Span) (walk walk' : Layer) (at end n len : ℕ) (style : Option ℕ) (all : List Span) → IsShowing spans walk at end all →
    0 < n → n ≤ len → n ≤ end - at → ((n ≡ len) ⊎ (n ≡ end - at)) → walk ≡ replicate len style ++ drop len walk → slice_get walk len ≢ Some style →
    spans' ≡ spans ++ one_span at (at + n) style → walk' ≡ drop n walk → IsShowing spans' walk' (at + n) end all
IsShowing-next spans spans' walk walk' at end n len style all going some low few which is longest spans_is walk_is = record {
  so_far =
      rw (spans_is, walk_is)
      (append_assoc spans (one_span at (at + n) style) (spans_from (at + n) (take (end - (at + n)) (drop n walk))) ∙
      ap (λ ss. spans ++ ss)
      (ap (λ k. one_span at (at + n) style ++ spans_from (at + n) (take k (drop n walk))) (sym less) ∙
      sym (front_spans at n style (take (end - at - n) (drop n walk)) some apart) ∙
      ap (spans_from at) (sym (take-front n (end - at) len walk style low few is))) ∙ going.so_far);
}
  where
    less : end - at - n ≡ end - (at + n)
    less = omega arith

    apart : slice_get (take (end - at - n) (drop n walk)) 0 ≢ Some style
    apart taken = elim which [
      | inl whole ↦ longest (sym (slice_get-dropped len walk) ∙ ap (λ k. slice_get (drop k walk) 0) (sym whole) ∙ slice_get-taken (end - at - n) (drop n walk) style taken)
      | inr up ↦ nothing (end - at - n) (omega (arith, up)) taken
    ]
      where
        nothing : (k : ℕ) → k ≡ 0 → slice_get (take k (drop n walk)) 0 ≡ Some style → ⊥
        nothing zero none is = cc
        nothing (suc k) none is = omega arith

pub IsShowing-done : (spans : List Span) (walk : Layer) (at end : ℕ) (all : List Span) → IsShowing spans walk at end all → take (end - at) walk ≡ [] → spans ≡ all
IsShowing-done spans walk at end all going none = sym (append-nil spans) ∙ ap (λ ss. spans ++ spans_from at ss) (sym none) ∙ going.so_far

pub spans_in-unstyled : (range : Run) (len : ℕ) → spans_in range (unstyled len) ≡ []
spans_in-unstyled range len =
    ap (λ ss. spans_from range.start (take (range.end - range.start) ss)) (drop-replicate range.start len None) ∙
    taken (range.end - range.start) (len - range.start) range.start
  where
    taken : (n m at : ℕ) → spans_from at (take n (replicate m None)) ≡ []
    taken zero m at = refl
    taken (suc n) zero at = refl
    taken (suc n) (suc m) at = taken n m (at + 1)

pub which_min : (n a b : ℕ) → n ≡ min a b → (n ≡ a) ⊎ (n ≡ b)
which_min n a b is = elim (cases_lt a b) [ inl below ↦ inl (omega arith) | inr past ↦ inr (omega arith) ]
