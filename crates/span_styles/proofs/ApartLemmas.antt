-- Where two layers begin to differ, and two lists of layers.
use Rattle.std.proofs.Common.{◌≡◌, ◌≢◌, ⊎_elim, ℕ, zero, suc, ◌+◌, ◌-◌, ◌<◌, ◌≤◌, Bool, false, List, [], ◌∷◌, ◌++◌, length, get_or, take, drop, min, replicate, Option, Some, None, is_some, slice_get, refl, ap, ap₂, sym, subst, ◌∙◌, arith, length-drop}
use Rattle.std.specs.List.{flat_map}
use Rattle.std.specs.Prelude.{slice_range}
use Rattle.std.proofs.lemmas.Bool.{cases_lt}
use Rattle.std.proofs.lemmas.List.{take-append-drop, take_rest, length-replicate, drop-take}
use Rattle.std.proofs.lemmas.List.Concat.{flat_map-cons}
use Rattle.plain_text.specs.declared.run.Run.{Run}
use Rattle.plain_edits.specs.Styles.{Layer}
use Rattle.span_runs.specs.Spans.{spans_from, spans_in}
use Rattle.span_styles.specs.declared.run.Stretch.{Stretch}
use Rattle.span_styles.specs.Layers.{AreApartFrom, unstyled}
use Rattle.span_styles.specs.Inner.{IsApartFrom, IsStyleFront, least_of}
use Rattle.span_styles.proofs.ShowLemmas.{take_none, take-front, slice_get-dropped}

-- ---- fronts that are alike

take_more : (at n : ℕ) (layer : Layer) → take (at + n) layer ≡ take at layer ++ take n (drop at layer)
take_more zero n layer = let all : 0 + n ≡ n = omega arith in ap (λ k. take k layer) all
take_more (suc at) n [] = take_none (suc at + n) ∙ sym (take_none n)
take_more (suc at) n (style ∷ layer) =
    let next : suc at + n ≡ suc (at + n) = omega arith in ap (λ k. take k (style ∷ layer)) next ∙ ap (λ rest. style ∷ rest) (take_more at n layer)

drop_more : (at n : ℕ) (layer : Layer) → drop (at + n) layer ≡ drop n (drop at layer)
drop_more zero n layer = let all : 0 + n ≡ n = omega arith in ap (λ k. drop k layer) all
drop_more (suc at) n [] = drop_empty (suc at + n) ∙ sym (drop_empty n)
  where
    drop_empty : (k : ℕ) → drop {A = Option ℕ} k [] ≡ []
    drop_empty zero = refl
    drop_empty (suc k) = refl
drop_more (suc at) n (style ∷ layer) =
    let next : suc at + n ≡ suc (at + n) = omega arith in ap (λ k. drop k (style ∷ layer)) next ∙ drop_more at n layer

take_less : (n k : ℕ) (layer other : Layer) → n ≤ k → take k layer ≡ take k other → take n layer ≡ take n other
take_less zero k layer other low same = refl
take_less (suc n) zero layer other low same = absurd (omega arith)
take_less (suc n) (suc k) [] [] low same = refl
take_less (suc n) (suc k) [] (y ∷ other) low same = absurd (let no = same in cc)
take_less (suc n) (suc k) (x ∷ layer) [] low same = absurd (let no = same in cc)
take_less (suc n) (suc k) (x ∷ layer) (y ∷ other) low same =
    let first : x ≡ y = cc in
    let rest : take k layer ≡ take k other = cc in
    ap₂ (λ z zs. z ∷ zs) first (take_less n k layer other (omega arith) rest)

-- a range in them shows the same spans
slice_range-alike : (start end at : ℕ) (layer other : Layer) → end ≤ at → take at layer ≡ take at other → slice_range layer start end ≡ slice_range other start end
slice_range-alike start end at layer other low same =
    ⊎_elim
    (λ (before : start < end).
    let whole : start + (end - start) ≡ end = omega arith in
    let one = sym (drop-take start (end - start) layer) ∙ ap (λ k. drop start (take k layer)) whole in
    let two = sym (drop-take start (end - start) other) ∙ ap (λ k. drop start (take k other)) whole in
    one ∙ ap (drop start) (take_less end at layer other low same) ∙ sym two)
    (λ (past : end ≤ start).
    let none : end - start ≡ 0 = omega arith in
    ap (λ n. take n (drop start layer)) none ∙ sym (ap (λ n. take n (drop start other)) none))
    (cases_lt start end)

spans_in-alike : (at : ℕ) (layer other : Layer) → take at layer ≡ take at other → (range : Run) → range.end ≤ at → spans_in range layer ≡ spans_in range other
spans_in-alike at layer other same range low = ap (spans_from range.start) (slice_range-alike range.start range.end at layer other low same)

-- ---- a walk over two layers

-- both layers are left from a gap on, up to which they are the same
pub record AreAhead (layer other walk counterpart : Layer) (at : ℕ) : Type 0 where
  pub alike : take at layer ≡ take at other
  pub is : walk ≡ drop at layer
  pub other_is : counterpart ≡ drop at other
  pub len : at + length walk ≡ length layer

pub AreAhead-start : (layer other walk counterpart : Layer) → walk ≡ drop 0 layer → counterpart ≡ drop 0 other → AreAhead layer other walk counterpart 0
AreAhead-start layer other walk counterpart is other_is =
    record { alike = refl; is = is; other_is = other_is; len = let all : 0 + length walk ≡ length walk = omega arith in all ∙ ap length is }

-- the first characters of both have one style
take-same : (n len other : ℕ) (style : Option ℕ) (walk counterpart : Layer) → n ≤ len → n ≤ other → walk ≡ replicate len style ++ drop len walk →
    counterpart ≡ replicate other style ++ drop other counterpart → take n walk ≡ take n counterpart
take-same n len other style walk counterpart low few is other_is =
    let none : n - n ≡ 0 = omega arith in
    let le : n ≤ n = omega arith in
    (take-front n n len walk style low le is ∙ ap (λ k. replicate n style ++ take k (drop n walk)) none) ∙
    sym (take-front n n other counterpart style few le other_is ∙ ap (λ k. replicate n style ++ take k (drop n counterpart)) none)

front-within : (len : ℕ) (style : Option ℕ) (walk : Layer) → walk ≡ replicate len style ++ drop len walk → len ≤ length walk
front-within len style walk is = by len walk is
  where
    by : (n : ℕ) (walk : Layer) → walk ≡ replicate n style ++ drop n walk → n ≤ length walk
    by zero walk is_here = omega arith
    by (suc n) [] is_here = absurd (let no = is_here in cc)
    by (suc n) (x ∷ walk) is_here = let rest : walk ≡ replicate n style ++ drop n walk = cc in omega (arith, by n walk rest)

module _ (layer other walk counterpart : Layer) (at : ℕ) (ahead : AreAhead layer other walk counterpart at) where
  alike-more : (n : ℕ) → take n walk ≡ take n counterpart → take (at + n) layer ≡ take (at + n) other
  alike-more n same =
      take_more at n layer ∙ ap₂ (λ front rest. front ++ rest) ahead.alike (sym (ap (take n) ahead.is) ∙ same ∙ ap (take n) ahead.other_is) ∙ sym (take_more at n other)

  slice_get-walk : (n : ℕ) → slice_get layer (at + n) ≡ slice_get walk n
  slice_get-walk n =
      sym (slice_get-dropped (at + n) layer) ∙ ap (λ rest. slice_get rest 0) (drop_more at n layer ∙ ap (drop n) (sym ahead.is)) ∙ slice_get-dropped n walk

  slice_get-counterpart : (n : ℕ) → slice_get other (at + n) ≡ slice_get counterpart n
  slice_get-counterpart n =
      sym (slice_get-dropped (at + n) other) ∙ ap (λ rest. slice_get rest 0) (drop_more at n other ∙ ap (drop n) (sym ahead.other_is)) ∙
      slice_get-dropped n counterpart

  -- a character of the walk that the other has not
  apart-at : (n : ℕ) → take n walk ≡ take n counterpart → slice_get walk n ≢ slice_get counterpart n → IsApartFrom (Some (at + n)) layer other
  apart-at n same differ =
      (λ one. differ (sym (slice_get-walk n) ∙ ap (λ xs. slice_get xs (at + n)) one ∙ slice_get-counterpart n), alike-more n same)

  apart-here : slice_get walk 0 ≢ slice_get counterpart 0 → IsApartFrom (Some at) layer other
  apart-here differ =
      let here : at + 0 ≡ at = omega arith in subst (λ k. IsApartFrom (Some k) layer other) here (apart-at 0 refl differ)

  pub apart-styles : (front next : Stretch) → IsStyleFront walk front → IsStyleFront counterpart next → front.style ≢ next.style → IsApartFrom (Some at) layer other
  apart-styles front next one two differ =
      apart-here (λ same. differ (inner (sym (first front.len front.style walk one.some one.same) ∙ same ∙ first next.len next.style counterpart two.some two.same)))
    where
      first : (n : ℕ) (style : Option ℕ) (xs : Layer) → 0 < n → xs ≡ replicate n style ++ drop n xs → slice_get xs 0 ≡ Some style
      first zero style xs some is = absurd (omega arith)
      first (suc n) style [] some is = absurd (let no = is in cc)
      first (suc n) style (x ∷ xs) some is = cc

      inner : Some front.style ≡ Some next.style → front.style ≡ next.style
      inner same = cc

  pub apart-lengths : (front next : Stretch) (len : ℕ) → IsStyleFront walk front → IsStyleFront counterpart next → front.style ≡ next.style →
      front.len ≢ next.len → len ≡ min front.len next.len → IsApartFrom (Some (at + len)) layer other
  apart-lengths front next len one two style differ is =
      let two_same : counterpart ≡ replicate next.len front.style ++ drop next.len counterpart = subst (λ s. counterpart ≡ replicate next.len s ++ drop next.len counterpart) (sym style) two.same in
      let same = take-same len front.len next.len front.style walk counterpart (omega (arith, is)) (omega (arith, is)) one.same two_same in
      apart-at len same
      (⊎_elim
      (λ (less : front.len < next.len).
      let here : front.len ≡ len = omega (arith, is) in
      let there = inside front.len next.len front.style counterpart less two_same in
      λ equal. one.longest (ap (slice_get walk) here ∙ equal ∙ sym (ap (slice_get counterpart) here) ∙ there))
      (λ (more : next.len ≤ front.len).
      let less : next.len < front.len = strict more in
      let here : next.len ≡ len = omega (arith, is) in
      let there = inside next.len front.len front.style walk less one.same in
      λ equal. two.longest (ap (slice_get counterpart) here ∙ sym equal ∙ sym (ap (slice_get walk) here) ∙ there ∙ ap Some style))
      (cases_lt front.len next.len))
    where
      strict : next.len ≤ front.len → next.len < front.len
      strict more = ⊎_elim (λ (less : next.len < front.len). less) (λ (le : front.len ≤ next.len). absurd (differ (omega arith))) (cases_lt next.len front.len)

      inside : (n len : ℕ) (style : Option ℕ) (xs : Layer) → n < len → xs ≡ replicate len style ++ drop len xs → slice_get xs n ≡ Some style
      inside n zero style xs less is_here = absurd (omega arith)
      inside n (suc len) style [] less is_here = absurd (let no = is_here in cc)
      inside zero (suc len) style (x ∷ xs) less is_here = cc
      inside (suc n) (suc len) style (x ∷ xs) less is_here =
          let rest : xs ≡ replicate len style ++ drop len xs = cc in inside n len style xs (omega arith) rest

  pub AreAhead-next : (front next : Stretch) (len : ℕ) (walk' counterpart' : Layer) → IsStyleFront walk front → IsStyleFront counterpart next →
      front.style ≡ next.style → front.len ≡ next.len → len ≡ min front.len next.len → walk' ≡ drop len walk → counterpart' ≡ drop len counterpart →
      AreAhead layer other walk' counterpart' (at + len)
  AreAhead-next front next len walk' counterpart' one two style lens is rest more =
      let two_same : counterpart ≡ replicate next.len front.style ++ drop next.len counterpart = subst (λ s. counterpart ≡ replicate next.len s ++ drop next.len counterpart) (sym style) two.same in
      let within : len ≤ length walk = omega (arith, is, lens, front-within front.len front.style walk one.same) in
      record {
        alike =
            alike-more len
            (take-same len front.len next.len front.style walk counterpart (omega (arith, is)) (omega (arith, is)) one.same two_same);
        is = rest ∙ ap (drop len) ahead.is ∙ sym (drop_more at len layer);
        other_is = more ∙ ap (drop len) ahead.other_is ∙ sym (drop_more at len other);
        len = omega (arith, ahead.len, within, ap length rest, length-drop len walk);
      }

  pub AreAhead-room : (front : Stretch) → IsStyleFront walk front → at + front.len ≤ length layer
  AreAhead-room front one = omega (arith, ahead.len, front-within front.len front.style walk one.same)

  pub apart-none : walk ≡ [] → counterpart ≡ [] → layer ≡ other
  apart-none none nothing =
      sym (take-append-drop at layer) ∙ ap₂ (λ front rest. front ++ rest) ahead.alike (sym ahead.is ∙ none ∙ sym nothing ∙ ahead.other_is) ∙
      take-append-drop at other

  pub apart-shorter : walk ≡ [] → counterpart ≢ [] → IsApartFrom (Some at) layer other
  apart-shorter none some = apart-here (λ same. some (empty counterpart (sym same ∙ ap (λ xs. slice_get xs 0) none)))
    where
      empty : (xs : Layer) → slice_get xs 0 ≡ None → xs ≡ []
      empty [] is = refl
      empty (x ∷ xs) is = absurd cc

  pub apart-longer : walk ≢ [] → counterpart ≡ [] → IsApartFrom (Some at) layer other
  apart-longer some none = apart-here (λ same. some (empty walk (same ∙ ap (λ xs. slice_get xs 0) none)))
    where
      empty : (xs : Layer) → slice_get xs 0 ≡ None → xs ≡ []
      empty [] is = refl
      empty (x ∷ xs) is = absurd cc

-- ---- a layer without a style

pub bare-front : (layer : Layer) (front : Stretch) (len n : ℕ) → IsStyleFront layer front → is_some front.style ≡ false → n ≡ min front.len len →
    take n (unstyled len) ≡ take n layer
bare-front layer front len n one bare is =
    let none : front.style ≡ None = no front.style bare in
    let same : layer ≡ replicate front.len None ++ drop front.len layer = subst (λ s. layer ≡ replicate front.len s ++ drop front.len layer) none one.same in
    take-same n len front.len None (unstyled len) layer (omega (arith, is)) (omega (arith, is)) (whole len) same
  where
    no : (style : Option ℕ) → is_some style ≡ false → style ≡ None
    no None is_here = refl
    no (Some id) is_here = absurd cc

    whole : (len : ℕ) → unstyled len ≡ replicate len None ++ drop len (unstyled len)
    whole zero = refl
    whole (suc len) = ap (λ rest. None ∷ rest) (whole len)

pub IsApartFrom-lengths : (len other : ℕ) → len ≢ other → IsApartFrom (Some 0) (unstyled len) (unstyled other)
IsApartFrom-lengths len other differ =
    (λ same. differ (sym (length-replicate len None) ∙ ap length same ∙ length-replicate other None), refl)

-- ---- lists of layers

pub AreApartFrom-cons : (one rest : Option ℕ) (layer other : Layer) (layers others : List Layer) → IsApartFrom one layer other →
    AreApartFrom rest layers others → AreApartFrom (least_of one rest) (layer ∷ layers) (other ∷ others)
AreApartFrom-cons None None layer other layers others same all = ap₂ (λ x xs. x ∷ xs) same all
AreApartFrom-cons None (Some gap) layer other layers others same all =
    (λ equal. all.0 (tails equal), λ range low. both range (ap (spans_in range) same) (all.1 range low))
  where
    tails : layer ∷ layers ≡ other ∷ others → layers ≡ others
    tails equal = cc

    both : (range : Run) → spans_in range layer ≡ spans_in range other → flat_map (spans_in range) layers ≡ flat_map (spans_in range) others →
        flat_map (spans_in range) (layer ∷ layers) ≡ flat_map (spans_in range) (other ∷ others)
    both range first more =
        flat_map-cons (spans_in range) layer layers ∙ ap₂ (λ xs ys. xs ++ ys) first more ∙ sym (flat_map-cons (spans_in range) other others)
AreApartFrom-cons (Some at) None layer other layers others one same =
    (λ equal. one.0 (heads equal), λ range low. both range (spans_in-alike at layer other one.1 range low) (ap (flat_map (spans_in range)) same))
  where
    heads : layer ∷ layers ≡ other ∷ others → layer ≡ other
    heads equal = cc

    both : (range : Run) → spans_in range layer ≡ spans_in range other → flat_map (spans_in range) layers ≡ flat_map (spans_in range) others →
        flat_map (spans_in range) (layer ∷ layers) ≡ flat_map (spans_in range) (other ∷ others)
    both range first more =
        flat_map-cons (spans_in range) layer layers ∙ ap₂ (λ xs ys. xs ++ ys) first more ∙ sym (flat_map-cons (spans_in range) other others)
AreApartFrom-cons (Some at) (Some gap) layer other layers others one all =
    (λ equal. one.0 (heads equal), λ range low. both range (spans_in-alike at layer other one.1 range (omega arith)) (all.1 range (omega arith)))
  where
    heads : layer ∷ layers ≡ other ∷ others → layer ≡ other
    heads equal = cc

    both : (range : Run) → spans_in range layer ≡ spans_in range other → flat_map (spans_in range) layers ≡ flat_map (spans_in range) others →
        flat_map (spans_in range) (layer ∷ layers) ≡ flat_map (spans_in range) (other ∷ others)
    both range first more =
        flat_map-cons (spans_in range) layer layers ∙ ap₂ (λ xs ys. xs ++ ys) first more ∙ sym (flat_map-cons (spans_in range) other others)

-- at the start of a text nothing is shown
pub nothing-shown : (layers : List Layer) (range : Run) → range.end ≤ 0 → flat_map (spans_in range) layers ≡ []
nothing-shown [] range low = refl
nothing-shown (layer ∷ layers) range low =
    flat_map-cons (spans_in range) layer layers ∙
    ap₂ (λ xs ys. xs ++ ys) (spans_in-alike 0 layer [] (sym (take_none 0)) range low ∙ ap (spans_from range.start) (empty range.start range.end)) (nothing-shown layers range low)
  where
    empty : (start end : ℕ) → slice_range {X = Option ℕ} [] start end ≡ []
    empty zero end = take_none (end - 0)
    empty (suc start) end = take_none (end - suc start)

pub AreApartFrom-shorter : (layers others : List Layer) → layers ≢ others → AreApartFrom (Some 0) layers others
AreApartFrom-shorter layers others differ = (differ, λ range low. nothing-shown layers range low ∙ sym (nothing-shown others range low))

abbrev all_but_first : List Layer → List Layer
all_but_first layers = take (length layers - 1) (drop 1 layers)

pub AreApartFrom-parts : (least one rest : Option ℕ) (layers others : List Layer) (layer other : Layer) → 1 ≤ length layers → 1 ≤ length others →
    layer ≡ get_or layers 0 layer → other ≡ get_or others 0 other → IsApartFrom one layer other → AreApartFrom rest (all_but_first layers) (all_but_first others) →
    least ≡ least_of one rest → AreApartFrom least layers others
AreApartFrom-parts least one rest [] others layer other some enough is other_is first all leads = absurd (omega arith)
AreApartFrom-parts least one rest (x ∷ layers) [] layer other some enough is other_is first all leads = absurd (omega arith)
AreApartFrom-parts least one rest (x ∷ layers) (y ∷ others) layer other some enough is other_is first all leads =
    let more : AreApartFrom rest layers others =
    subst (λ xs. AreApartFrom rest xs others) (take_rest (x ∷ layers) 1)
    (subst (λ ys. AreApartFrom rest (all_but_first (x ∷ layers)) ys) (take_rest (y ∷ others) 1) all) in
    subst (λ gap. AreApartFrom gap (x ∷ layers) (y ∷ others)) (sym leads)
    (AreApartFrom-cons one rest x y layers others (subst (λ z. IsApartFrom one z y) is (subst (λ z. IsApartFrom one layer z) other_is first)) more)
