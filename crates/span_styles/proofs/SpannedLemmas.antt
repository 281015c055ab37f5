-- Lemmas on what spans over ranges make of a layer.
use Rattle.std.proofs.Common.{◌≡◌, ℕ, zero, suc, ◌+◌, ◌-◌, ◌<◌, ◌≤◌, List, [], ◌∷◌, ◌++◌, length, map, take, drop, get_or, Option, fold, refl, ap, ap₂, sym, ◌∙◌, arith, append_assoc, length-append, length-drop, take-append-drop}
use Rattle.std.specs.List.{range_with_len}
use Rattle.std.proofs.lemmas.Bool.Decides.{nat_tests}
use Rattle.std.proofs.lemmas.List.FromFn.{length-map-range_with_len}
use Rattle.plain_text.specs.declared.run.Run.{Run}
use Rattle.plain_edits.specs.declared.style.Span.{Span}
use Rattle.plain_edits.specs.Styles.{Layer, span_style, spanned_style}
use Rattle.span_styles.specs.declared.spanned.SpannedRange.{SpannedRange}
use Rattle.span_styles.specs.Layers.{spanned_from, RiseWithin}
use Rattle.span_styles.specs.Inner.{styles_in}

-- ---- left of a range, in it, and right of it

outside_left : (range : Run) (spans : List Span) (index : ℕ) (style : Option ℕ) → index < range.start → spanned_style range spans index style ≡ style
outside_left range spans index style below = grind (arith, nat_tests)

outside_right : (range : Run) (spans : List Span) (index : ℕ) (style : Option ℕ) → range.end ≤ index → spanned_style range spans index style ≡ style
outside_right range spans index style past = grind (arith, nat_tests)

inside : (range : Run) (spans : List Span) (index : ℕ) (style : Option ℕ) → range.start ≤ index → index < range.end → spanned_style range spans index style ≡ span_style spans index
inside range spans index style low high = grind (arith, nat_tests)

module _ (spanned : SpannedRange) where
  pub spanned_from-left : (index : ℕ) (layer : Layer) → index + length layer ≤ spanned.range.start → spanned_from index layer spanned ≡ layer
  spanned_from-left index [] below = refl
  spanned_from-left index (style ∷ layer) below =
      ap₂ (λ s ss. s ∷ ss) (outside_left spanned.range spanned.spans index style (omega arith)) (spanned_from-left (index + 1) layer (omega arith))

  pub spanned_from-right : (index : ℕ) (layer : Layer) → spanned.range.end ≤ index → spanned_from index layer spanned ≡ layer
  spanned_from-right index [] past = refl
  spanned_from-right index (style ∷ layer) past =
      ap₂ (λ s ss. s ∷ ss) (outside_right spanned.range spanned.spans index style past) (spanned_from-right (index + 1) layer (omega arith))

  pub spanned_from-inside : (index : ℕ) (layer : Layer) → spanned.range.start ≤ index → index + length layer ≤ spanned.range.end →
      spanned_from index layer spanned ≡ map (span_style spanned.spans) (range_with_len index (length layer))
  spanned_from-inside index [] low high = refl
  spanned_from-inside index (style ∷ layer) low high =
      ap₂ (λ s ss. s ∷ ss) (inside spanned.range spanned.spans index style low (omega arith)) (spanned_from-inside (index + 1) layer (omega arith) (omega arith))

  pub spanned_from-append : (index : ℕ) (front back : Layer) →
      spanned_from index (front ++ back) spanned ≡ spanned_from index front spanned ++ spanned_from (index + length front) back spanned
  spanned_from-append index [] back = let none : index ≡ index + 0 = omega arith in ap (λ i. spanned_from i back spanned) none
  spanned_from-append index (style ∷ front) back =
      let next : index + 1 + length front ≡ index + suc (length front) = omega arith in
      ap (λ styles. spanned_style spanned.range spanned.spans index style ∷ styles)
      (spanned_from-append (index + 1) front back ∙ ap (λ i. spanned_from (index + 1) front spanned ++ spanned_from i back spanned) next)

-- ranges that come after the first characters leave these
pub fold-spanned_from : (index from to : ℕ) (front back : Layer) (ranges : List SpannedRange) → RiseWithin from to ranges → index + length front ≤ from →
    fold (spanned_from index) (front ++ back) ranges ≡ front ++ fold (spanned_from (index + length front)) back ranges
fold-spanned_from index from to front back [] rise past = refl
fold-spanned_from index from to front back (spanned ∷ ranges) rise past =
    ap (λ layer. fold (spanned_from index) layer ranges)
    (spanned_from-append spanned index front back ∙
    ap (λ layer. layer ++ spanned_from (index + length front) back spanned) (spanned_from-left spanned index front (omega (arith, rise.0)))) ∙
    fold-spanned_from index spanned.range.end to front (spanned_from (index + length front) back spanned) ranges rise.3 (omega (arith, rise.0, rise.1))

-- ---- the walk over the ranges

-- the item that a loop comes to is the first of those that are left
pub drop_item : {X : Type 0} (xs : List X) (i : ℕ) (x : X) → i < length xs → x ≡ get_or xs i x → drop i xs ≡ x ∷ drop (i + 1) xs
drop_item [] i x inside is = absurd (omega arith)
drop_item (y ∷ xs) zero x inside is = ap (λ z. z ∷ xs) (sym is)
drop_item (y ∷ xs) (suc i) x inside is = drop_item xs i x (omega arith) is ∙ (let next : suc (i + 1) ≡ suc i + 1 = omega arith in ap (λ n. x ∷ drop n (y ∷ xs)) next)

-- what is made with what the ranges that are left make of the characters that are ahead
pub record IsSpanning (made rest : Layer) (at len : ℕ) (ranges : List SpannedRange) (all : Layer) : Type 0 where
  pub so_far : made ++ fold (spanned_from at) rest ranges ≡ all
  pub made_len : length made ≡ at
  pub rest_len : at + length rest ≡ len
  pub rise : RiseWithin at len ranges

abbrev pub before_range : ℕ → SpannedRange → ℕ
before_range at spanned = spanned.range.start - at

abbrev pub range_len : SpannedRange → ℕ
range_len spanned = spanned.range.end - spanned.range.start

RiseWithin-le : (from to : ℕ) (ranges : List SpannedRange) → RiseWithin from to ranges → from ≤ to
RiseWithin-le from to [] rise = rise
RiseWithin-le from to (spanned ∷ ranges) rise = omega (arith, rise.0, rise.1, RiseWithin-le spanned.range.end to ranges rise.3)

pub range_room : (made rest : Layer) (at len : ℕ) (spanned : SpannedRange) (ranges : List SpannedRange) (all : Layer) →
    IsSpanning made rest at len (spanned ∷ ranges) all → before_range at spanned + range_len spanned ≤ length rest
range_room made rest at len spanned ranges all going =
    omega (arith, going.rest_len, going.rise.0, going.rise.1, RiseWithin-le spanned.range.end len ranges going.rise.3)

length-take-within : (n : ℕ) (xs : Layer) → n ≤ length xs → length (take n xs) ≡ n
length-take-within zero xs within = refl
length-take-within (suc n) [] within = absurd (omega arith)
length-take-within (suc n) (x ∷ xs) within = let rest = length-take-within n xs (omega arith) in omega arith

take_parts : (n m : ℕ) (xs : Layer) → xs ≡ take n xs ++ (take m (drop n xs) ++ drop (n + m) xs)
take_parts n m xs =
    sym (take-append-drop n xs) ∙ ap (λ ys. take n xs ++ ys) (sym (take-append-drop m (drop n xs)) ∙ ap (λ ys. take m (drop n xs) ++ ys) (twice n xs))
  where
    twice : (n : ℕ) (xs : Layer) → drop m (drop n xs) ≡ drop (n + m) xs
    twice zero xs = let none : m ≡ 0 + m = omega arith in ap (λ k. drop k xs) none
    twice (suc n) [] = none m ∙ sym (none (suc n + m))
      where
        none : (k : ℕ) → drop {A = Option ℕ} k [] ≡ []
        none zero = refl
        none (suc k) = refl
    twice (suc n) (x ∷ xs) = let next : suc n + m ≡ suc (n + m) = omega arith in twice n xs ∙ ap (λ k. drop k (x ∷ xs)) (sym next)

pub IsSpanning-next : (made rest made' rest' : Layer) (at len : ℕ) (spanned : SpannedRange) (ranges : List SpannedRange) (all : Layer) →
    IsSpanning made rest at len (spanned ∷ ranges) all →
    made' ≡ made ++ (take (before_range at spanned) rest ++ styles_in spanned.range spanned.spans) →
    rest' ≡ drop (before_range at spanned + range_len spanned) rest → IsSpanning made' rest' spanned.range.end len ranges all
IsSpanning-next made rest made' rest' at len spanned ranges all going made_is rest_is = record {
  so_far =
      rw (made_is, rest_is)
      (append_assoc made (left ++ styles) (fold (spanned_from spanned.range.end) back ranges) ∙ ap (λ layer. made ++ layer) (sym whole) ∙ going.so_far);
  made_len =
      rw made_is (omega (arith, going.made_len, low, up, length-append made (left ++ styles), length-append left styles, left_len, styles_len));
  rest_len = rw rest_is (omega (arith, going.rest_len, low, up, room, length-drop (n + m) rest));
  rise = going.rise.3;
}
  where
    n : ℕ
    n = before_range at spanned

    m : ℕ
    m = range_len spanned

    left : Layer
    left = take n rest

    styles : Layer
    styles = styles_in spanned.range spanned.spans

    back : Layer
    back = drop (n + m) rest

    low : at ≤ spanned.range.start
    low = going.rise.0

    up : spanned.range.start ≤ spanned.range.end
    up = going.rise.1

    room : before_range at spanned + range_len spanned ≤ length rest
    room = range_room made rest at len spanned ranges all going

    left_len : length left ≡ n
    left_len = length-take-within n rest (omega (arith, room))

    mid : Layer
    mid = take m (drop n rest)

    mid_len : length mid ≡ m
    mid_len = length-take-within m (drop n rest) (omega (arith, room, length-drop n rest))

    styles_len : length styles ≡ m
    styles_len = length-map-range_with_len (span_style spanned.spans) spanned.range.start m

    start : at + length left ≡ spanned.range.start
    start = omega (arith, left_len, low)

    end : spanned.range.start + length mid ≡ spanned.range.end
    end = omega (arith, mid_len, up)

    here : spanned_from at rest spanned ≡ (left ++ styles) ++ back
    here =
        ap (λ layer. spanned_from at layer spanned) (take_parts n m rest) ∙ spanned_from-append spanned at left (mid ++ back) ∙
        ap₂ (λ xs ys. xs ++ ys) (spanned_from-left spanned at left (omega (arith, start)))
        (ap (λ i. spanned_from i (mid ++ back) spanned) start ∙ spanned_from-append spanned spanned.range.start mid back ∙
        ap₂ (λ xs ys. xs ++ ys)
        (spanned_from-inside spanned spanned.range.start mid (omega arith) (omega (arith, end)) ∙
        ap (λ k. map (span_style spanned.spans) (range_with_len spanned.range.start k)) mid_len)
        (spanned_from-right spanned (spanned.range.start + length mid) back (omega (arith, end)))) ∙
        sym (append_assoc left styles back)

    past : at + length (left ++ styles) ≡ spanned.range.end
    past = omega (arith, length-append left styles, left_len, styles_len, low, up)

    whole : fold (spanned_from at) rest (spanned ∷ ranges) ≡ (left ++ styles) ++ fold (spanned_from spanned.range.end) back ranges
    whole =
        ap (λ layer. fold (spanned_from at) layer ranges) here ∙
        fold-spanned_from at spanned.range.end len (left ++ styles) back ranges going.rise.3 (omega (arith, past)) ∙
        ap (λ i. (left ++ styles) ++ fold (spanned_from i) back ranges) past

pub take_all : (n : ℕ) (xs : Layer) → length xs ≤ n → take n xs ≡ xs
take_all zero [] all = refl
take_all zero (x ∷ xs) all = absurd (omega arith)
take_all (suc n) [] all = refl
take_all (suc n) (x ∷ xs) all = ap (λ ys. x ∷ ys) (take_all n xs (omega arith))

-- what is left when the ranges are done
pub IsSpanning-done : (made rest : Layer) (at len : ℕ) (ranges : List SpannedRange) (all : Layer) → IsSpanning made rest at len ranges all → ranges ≡ [] →
    made ++ take (len - at) rest ≡ all
IsSpanning-done made rest at len ranges all going none =
    ap (λ layer. made ++ layer) (take_all (len - at) rest (omega (arith, going.rest_len))) ∙
    ap (λ rs. made ++ fold (spanned_from at) rest rs) (sym none) ∙ going.so_far
