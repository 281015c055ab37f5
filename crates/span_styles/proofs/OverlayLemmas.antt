-- Lemmas on a layer over another one, and on the styles that spans give a range.
use Rattle.std.proofs.Common.{◌≡◌, ℕ, zero, suc, ◌+◌, ◌-◌, ◌^◌, ◌<◌, ◌≤◌, List, [], ◌∷◌, ◌++◌, length, map, drop, replicate, Option, Some, None, refl, ap, ap₂, sym, ◌∙◌, arith, append_assoc, length-append, length-drop}
use Rattle.std.specs.List.{range_with_len}
use Rattle.std.proofs.lemmas.Bool.Decides.{nat_tests}
use Rattle.std.proofs.lemmas.List.{length-replicate}
use Rattle.plain_text.specs.declared.run.Run.{Run}
use Rattle.plain_edits.specs.declared.style.Span.{Span}
use Rattle.plain_edits.specs.Styles.{Layer, or_style, span_style}
use Rattle.span_styles.specs.Inner.{overlaid_layer, styles_in}

overlaid-front : (n : ℕ) (above below : Layer) (a b : ℕ) (s t : Option ℕ) → n ≤ a → n ≤ b →
    above ≡ replicate a s ++ drop a above → below ≡ replicate b t ++ drop b below →
    overlaid_layer above below ≡ replicate n (or_style s t) ++ overlaid_layer (drop n above) (drop n below)
overlaid-front zero above below a b s t low high is other = refl
overlaid-front (suc n) above below zero b s t low high is other = absurd (omega arith)
overlaid-front (suc n) above below (suc a) zero s t low high is other = absurd (omega arith)
overlaid-front (suc n) [] below (suc a) (suc b) s t low high is other = absurd (let no = is in cc)
overlaid-front (suc n) (x ∷ above) [] (suc a) (suc b) s t low high is other = absurd (let no = other in cc)
overlaid-front (suc n) (x ∷ above) (y ∷ below) (suc a) (suc b) s t low high is other =
    let first : x ≡ s = cc in
    let second : y ≡ t = cc in
    let rest : above ≡ replicate a s ++ drop a above = cc in
    let more : below ≡ replicate b t ++ drop b below = cc in
    ap₂ (λ style layer. style ∷ layer) (ap₂ or_style first second) (overlaid-front n above below a b s t (omega arith) (omega arith) rest more)

-- what is made with what is ahead of both
pub record IsOverlaying (made upper lower all : Layer) : Type 0 where
  pub so_far : made ++ overlaid_layer upper lower ≡ all
  pub same : length upper ≡ length lower
  pub room : length made + length upper < 2 ^ 64

pub IsOverlaying-next : (made upper lower all made' upper' lower' : Layer) (n a b : ℕ) (s t : Option ℕ) → IsOverlaying made upper lower all →
    n ≤ a → n ≤ b → n ≤ length upper → upper ≡ replicate a s ++ drop a upper → lower ≡ replicate b t ++ drop b lower →
    made' ≡ made ++ replicate n (or_style s t) → upper' ≡ drop n upper → lower' ≡ drop n lower →
    IsOverlaying made' upper' lower' all
IsOverlaying-next made upper lower all made' upper' lower' n a b s t going low high within is other made_is upper_is lower_is = record {
  so_far =
      rw (made_is, upper_is, lower_is)
      (append_assoc made (replicate n (or_style s t)) (overlaid_layer (drop n upper) (drop n lower)) ∙
      ap (λ layer. made ++ layer) (sym (overlaid-front n upper lower a b s t low high is other)) ∙ going.so_far);
  same = rw (upper_is, lower_is) (omega (arith, going.same, length-drop n upper, length-drop n lower));
  room =
      rw (made_is, upper_is)
      (omega (arith, going.room, within, length-drop n upper, length-append made (replicate n (or_style s t)), length-replicate n (or_style s t)));
}

-- a stretch is not longer than what it is the front of
pub front_within : (n : ℕ) (layer : Layer) (s : Option ℕ) → layer ≡ replicate n s ++ drop n layer → n ≤ length layer
front_within n layer s is = omega (arith, ap length is, length-append (replicate n s) (drop n layer), length-replicate n s)

-- ---- the styles that spans give

pub or_style-assoc : (a b c : Option ℕ) → or_style (or_style a b) c ≡ or_style a (or_style b c)
or_style-assoc None b c = refl
or_style-assoc (Some style) b c = refl

-- spans after others win
span_style-append : (earlier later : List Span) (index : ℕ) → span_style (earlier ++ later) index ≡ or_style (span_style later index) (span_style earlier index)
span_style-append [] later index = none (span_style later index)
  where
    none : (style : Option ℕ) → style ≡ or_style style None
    none None = refl
    none (Some style) = refl
span_style-append (span ∷ earlier) later index =
    ap (λ style. or_style style (span_style (span ∷ []) index)) (span_style-append earlier later index) ∙
    or_style-assoc (span_style later index) (span_style earlier index) (span_style (span ∷ []) index)

overlaid-map : (f g : ℕ → Option ℕ) (indices : List ℕ) → overlaid_layer (map f indices) (map g indices) ≡ map (λ i. or_style (f i) (g i)) indices
overlaid-map f g [] = refl
overlaid-map f g (i ∷ indices) = ap (λ layer. or_style (f i) (g i) ∷ layer) (overlaid-map f g indices)

map_same : (f g : ℕ → Option ℕ) → ((i : ℕ) → f i ≡ g i) → (indices : List ℕ) → map f indices ≡ map g indices
map_same f g same [] = refl
map_same f g same (i ∷ indices) = ap₂ (λ style layer. style ∷ layer) (same i) (map_same f g same indices)

pub overlaid-styles : (range : Run) (earlier later : List Span) → overlaid_layer (styles_in range later) (styles_in range earlier) ≡ styles_in range (earlier ++ later)
overlaid-styles range earlier later =
    overlaid-map (span_style later) (span_style earlier) (range_with_len range.start (range.end - range.start)) ∙
    map_same (λ i. or_style (span_style later i) (span_style earlier i)) (span_style (earlier ++ later)) (λ i. sym (span_style-append earlier later i))
    (range_with_len range.start (range.end - range.start))

-- ---- one span

map_constant : (f : ℕ → Option ℕ) (style : Option ℕ) (from n : ℕ) → ((i : ℕ) → from ≤ i → i < from + n → f i ≡ style) → map f (range_with_len from n) ≡ replicate n style
map_constant f style from zero same = refl
map_constant f style from (suc n) same =
    ap₂ (λ s ss. s ∷ ss) (same from (omega arith) (omega arith)) (map_constant f style (from + 1) n (λ i low high. same i (omega arith) (omega arith)))

map_parts : (f : ℕ → Option ℕ) (from n m : ℕ) → map f (range_with_len from (n + m)) ≡ map f (range_with_len from n) ++ map f (range_with_len (from + n) m)
map_parts f from zero m =
    let none : 0 + m ≡ m = omega arith in
    let here : from ≡ from + 0 = omega arith in
    ap (λ k. map f (range_with_len from k)) none ∙ ap (λ i. map f (range_with_len i m)) here
map_parts f from (suc n) m =
    let more : suc n + m ≡ suc (n + m) = omega arith in
    let next : from + 1 + n ≡ from + suc n = omega arith in
    ap (λ k. map f (range_with_len from k)) more ∙
    ap (λ ss. f from ∷ ss) (map_parts f (from + 1) n m ∙ ap (λ i. map f (range_with_len (from + 1) n) ++ map f (range_with_len i m)) next)

uncovered_left : (span : Span) (i : ℕ) → i < span.start → span_style (span ∷ []) i ≡ None
uncovered_left span i below = grind (arith, nat_tests)

uncovered_right : (span : Span) (i : ℕ) → span.end ≤ i → span_style (span ∷ []) i ≡ None
uncovered_right span i past = grind (arith, nat_tests)

covered : (span : Span) (i : ℕ) → span.start ≤ i → i < span.end → span_style (span ∷ []) i ≡ Some span.style
covered span i low high = grind (arith, nat_tests)

pub styles_in-once : (range : Run) (span : Span) → range.start ≤ span.start → span.start ≤ span.end → span.end ≤ range.end →
    (replicate (span.start - range.start) None ++ replicate (span.end - span.start) (Some span.style)) ++ replicate (range.end - span.end) None ≡ styles_in range (span ∷ [])
styles_in-once range span start ordered end =
    sym
    (ap (λ k. map f (range_with_len range.start k)) all ∙ map_parts f range.start (a + b) c ∙
    ap₂ (λ xs ys. xs ++ ys)
    (map_parts f range.start a b ∙
    ap₂ (λ xs ys. xs ++ ys) (map_constant f None range.start a (λ i low high. uncovered_left span i (omega arith)))
    (map_constant f (Some span.style) (range.start + a) b (λ i low high. covered span i (omega arith) (omega arith))))
    (map_constant f None (range.start + (a + b)) c (λ i low high. uncovered_right span i (omega arith))))
  where
    f : ℕ → Option ℕ
    f = span_style (span ∷ [])

    a : ℕ
    a = span.start - range.start

    b : ℕ
    b = span.end - span.start

    c : ℕ
    c = range.end - span.end

    all : range.end - range.start ≡ (a + b) + c
    all = omega arith

pub styles_in-none : (range : Run) → replicate (range.end - range.start) None ≡ styles_in range []
styles_in-none range = sym (map_constant (span_style []) None range.start (range.end - range.start) (λ i low high. refl))
