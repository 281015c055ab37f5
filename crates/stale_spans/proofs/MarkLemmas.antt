-- Marks that an edit carried from a revision to the head, put over a layer of the head text, are spans against the revision.
use Rattle.std.proofs.Common.{◌≡◌, ℕ, zero, suc, ◌+◌, ◌<◌, Bool, true, false, cond, ◌&&◌, List, [], ◌∷◌, ◌++◌, length, map, take, drop, filter, Option, Some, None, slice_get, refl, ap, ap₂, sym, ◌∙◌, arith}
use Rattle.std.proofs.Math.Path.{fun_ext}
use Rattle.std.specs.Prelude.{if◌then◌else◌, nat_le, nat_lt, option_map}
use Rattle.std.specs.List.{count_by, enumerate_from}
use Rattle.std.proofs.lemmas.Bool.{both_ways}
use Rattle.std.proofs.lemmas.List.{length-map, length-replicate}
use Rattle.std.proofs.lemmas.List.FromFn.{length-enumerate_from}
use Rattle.plain_text.specs.declared.run.Run.{Run}
use Rattle.plain_text.proofs.callers.ListLemmas.{filter-yes, filter-no, count_by-yes, count_by-no}
use Rattle.plain_edits.specs.declared.style.Span.{Span}
use Rattle.plain_edits.specs.declared.delta.UnitDelta.{UnitDelta}
use Rattle.plain_edits.specs.UnitDelta.{unit_keeps, unit_adds}
use Rattle.plain_edits.specs.History.{History, head, is_visible, visible_at, text_at}
use Rattle.plain_edits.specs.Change.{change_keeps, change_adds, passes_at, shown_indices}
use Rattle.plain_edits.specs.Styles.{Layer, carried_layer, covers, is_shown_at, mapped_layer, number_at, or_style, span_style, spanned_style, style_at, style_of, with_spans}
use Rattle.plain_edits.proofs.callers.ChangeLemmas.{first_kept, walked}
use Rattle.plain_edits.proofs.callers.StyleLemmas.{carried_layer-walked, mapped_layer-change}
use Rattle.span_styles.specs.declared.spanned.SpannedRange.{SpannedRange}
use Rattle.span_styles.specs.Layers.{spanned_from, unstyled}
use Rattle.stale_spans.specs.Marks.{carried_marks, layer_under, marked_layer, marks_of, meaning_of, numbered_spans, style_under}

-- ---- what a number stands for

-- of the spans over a character the last one has the number that is found
abbrev IsNumbered : ℕ → List Span → ℕ → Option ℕ → Type 0
IsNumbered number spans index None = span_style spans index ≡ None
IsNumbered number spans index (Some mark) =
    (later : ℕ) × (style : ℕ) × (mark ≡ number + later) × (option_map (λ span. span.style) (slice_get spans later) ≡ Some style) ×
    (span_style spans index ≡ Some style)

numbered-style : (number : ℕ) (spans : List Span) (index : ℕ) → IsNumbered number spans index (span_style (numbered_spans number spans) index)
numbered-style number [] index = refl
numbered-style number (span ∷ spans) index = by (span_style (numbered_spans (number + 1) spans) index) (numbered-style (number + 1) spans index) (covers span index) refl
  where
    by : (found : Option ℕ) → IsNumbered (number + 1) spans index found → (b : Bool) → covers span index ≡ b →
        IsNumbered number (span ∷ spans) index (or_style found (if b then Some number else None))
    by (Some mark) later b is =
        (suc later.0, later.1, omega (arith, later.2), later.3, ap (λ s. or_style s (if covers span index then Some span.style else None)) later.4)
    by None none true is =
        (0, span.style, omega arith, refl, ap₂ (λ s c. or_style s (if c then Some span.style else None)) none is)
    by None none false is = ap₂ (λ s c. or_style s (if c then Some span.style else None)) none is

-- ---- a mark over a character

under-marks : (range : Run) (spans : List Span) (index : ℕ) (style : Option ℕ) →
    style_under (meaning_of spans) (spanned_style range (marks_of range spans) index None) style ≡ spanned_style range spans index style
under-marks range spans index style = by (nat_le range.start index && nat_lt index range.end) (span_style (numbered_spans 1 spans) index) (numbered-style 1 spans index)
  where
    by : (b : Bool) (found : Option ℕ) → IsNumbered 1 spans index found →
        style_under (meaning_of spans) (if b then or_style found (if b then Some 0 else None) else None) style ≡ (if b then span_style spans index else style)
    by true None none = sym none
    by true (Some mark) later =
        let next : mark ≡ suc later.0 = omega (arith, later.2) in
        ap (meaning_of spans) next ∙ later.3 ∙ sym later.4
    by false found is = refl

-- ---- the layer of marks, at one of its characters

style_at-spanned : (from len : ℕ) (spanned : SpannedRange) (index : ℕ) → index < len →
    style_at (spanned_from from (unstyled len) spanned) index ≡ spanned_style spanned.range spanned.spans (from + index) None
style_at-spanned from zero spanned index inside = absurd (omega (arith, inside))
style_at-spanned from (suc len) spanned zero inside =
    let none : from ≡ from + 0 = omega arith in
    ap (λ n. spanned_style spanned.range spanned.spans n None) none
style_at-spanned from (suc len) spanned (suc index) inside =
    let next : from + 1 + index ≡ from + suc index = omega arith in
    style_at-spanned (from + 1) len spanned index (omega (arith, inside)) ∙ ap (λ n. spanned_style spanned.range spanned.spans n None) next

number_inside : {X : Type 0} (p : X → Bool) (index : ℕ) (xs : List X) → passes_at p index xs ≡ true → count_by p (take index xs) < length (filter p xs)
number_inside p index [] passes = absurd (both_ways false refl passes)
number_inside p zero (x ∷ xs) passes = omega (arith, ap length (filter-yes p x xs passes))
number_inside p (suc index) (x ∷ xs) passes = by (p x) refl (number_inside p index xs passes)
  where
    by : (b : Bool) → p x ≡ b → count_by p (take index xs) < length (filter p xs) → count_by p (x ∷ take index xs) < length (filter p (x ∷ xs))
    by true is rest = omega (arith, rest, count_by-yes p x (take index xs) is, ap length (filter-yes p x xs is))
    by false is rest = omega (arith, rest, count_by-no p x (take index xs) is, ap length (filter-no p x xs is))

-- ---- a layer of the head text, by the characters of the history

walked-self : {X Y : Type 0} (p : X → Bool) (new : X → Y) (xs : List X) (ys : List Y) → length ys ≡ length (filter p xs) → walked p p new xs ys ≡ ys
walked-self p new [] [] long = refl
walked-self p new [] (y ∷ ys) long = absurd (omega (arith, long))
walked-self {X} {Y} p new (x ∷ xs) ys long = by (p x) refl ys long (walked-self p new xs)
  where
    by : (b : Bool) → p x ≡ b → (zs : List Y) → length zs ≡ length (filter p (x ∷ xs)) →
        ((us : List Y) → length us ≡ length (filter p xs) → walked p p new xs us ≡ us) →
        cond b (first_kept b zs ++ walked p p new xs (drop 1 zs)) (cond b (new x ∷ []) [] ++ walked p p new xs zs) ≡ zs
    by true is [] long rest = absurd (omega (arith, long, ap length (filter-yes p x xs is)))
    by true is (z ∷ zs) long rest = ap (λ us. z ∷ us) (rest zs (omega (arith, long, ap length (filter-yes p x xs is))))
    by false is zs long rest = rest zs (long ∙ ap length (filter-no p x xs is))

carried-self : (h : History) (rev : ℕ) (layer : Layer) → length layer ≡ length (visible_at h rev) → carried_layer h rev rev layer ≡ layer
carried-self h rev layer long =
    carried_layer-walked h rev rev layer long ∙ walked-self (is_visible h.revisions rev) (λ tagged. None) h.characters layer long

under-map : (means : ℕ → Option ℕ) (f g : ℕ → Option ℕ) (is : List ℕ) →
    layer_under means (map f is) (map g is) ≡ map (λ i. style_under means (f i) (g i)) is
under-map means f g [] = refl
under-map means f g (i ∷ is) = ap (λ ss. style_under means (f i) (g i) ∷ ss) (under-map means f g is)

map-same : (f g : ℕ → Option ℕ) → ((i : ℕ) → f i ≡ g i) → (is : List ℕ) → map f is ≡ map g is
map-same f g same [] = refl
map-same f g same (i ∷ is) = ap₂ (λ s ss. s ∷ ss) (same i) (map-same f g same is)

module _ (h : History) (rev : ℕ) (range : Run) (spans : List Span) (layer : Layer) where
  abbrev marks : Layer
  marks = marked_layer (length (visible_at h rev)) range (marks_of range spans)

  one : (i : ℕ) → style_under (meaning_of spans) (style_of h rev marks i) (style_of h (head h) layer i) ≡
      (if is_shown_at h rev i then spanned_style range spans (number_at h rev i) (style_of h (head h) layer i) else style_of h (head h) layer i)
  one i = by (is_shown_at h rev i) refl
    where
      by : (b : Bool) → is_shown_at h rev i ≡ b →
          style_under (meaning_of spans) (if b then style_at marks (number_at h rev i) else None) (style_of h (head h) layer i) ≡
          (if b then spanned_style range spans (number_at h rev i) (style_of h (head h) layer i) else style_of h (head h) layer i)
      by true shown =
          ap (λ s. style_under (meaning_of spans) s (style_of h (head h) layer i))
          (style_at-spanned 0 (length (visible_at h rev)) (record { range = range; spans = marks_of range spans }) (number_at h rev i)
          (number_inside (is_visible h.revisions rev) i h.characters shown) ∙
          (let none : 0 + number_at h rev i ≡ number_at h rev i = omega arith in
          ap (λ n. spanned_style range (marks_of range spans) n None) none)) ∙
          under-marks range spans (number_at h rev i) (style_of h (head h) layer i)
      by false hidden = refl

  under-carried : length layer ≡ length (visible_at h (head h)) →
      layer_under (meaning_of spans) (carried_layer h rev (head h) marks) layer ≡ with_spans h rev range spans layer
  under-carried long =
      ap (layer_under (meaning_of spans) (carried_layer h rev (head h) marks)) (sym (carried-self h (head h) layer long)) ∙
      under-map (meaning_of spans) (style_of h rev marks) (style_of h (head h) layer) (shown_indices h (head h)) ∙
      map-same _ _ one (shown_indices h (head h))

  -- THE MARKS that the edit since the revision carries, over a layer of the head text
  pub with_spans-marks : (units : UnitDelta) → units.base ≡ length (text_at h rev) →
      ((index : ℕ) → unit_keeps units index ≡ change_keeps h rev (head h) index) → ((gap : ℕ) → unit_adds units gap ≡ change_adds h rev (head h) gap) →
      length layer ≡ length (text_at h (head h)) →
      layer_under (meaning_of spans) (carried_marks units range (marks_of range spans)) layer ≡ with_spans h rev range spans layer
  with_spans-marks units base kept added long =
      ap (λ len. layer_under (meaning_of spans) (mapped_layer (unit_keeps units) (unit_adds units) (marked_layer len range (marks_of range spans))) layer)
      (base ∙ length-map (visible_at h rev) (λ tagged. tagged.character)) ∙
      ap₂ (λ k a. layer_under (meaning_of spans) (mapped_layer k a marks) layer) (fun_ext kept) (fun_ext added) ∙
      ap (λ ss. layer_under (meaning_of spans) ss layer) (mapped_layer-change h rev (head h) marks marks-length) ∙
      under-carried (long ∙ length-map (visible_at h (head h)) (λ tagged. tagged.character))
    where
      marks-length : length marks ≡ length (visible_at h rev)
      marks-length = length-map (enumerate_from 0 (unstyled (length (visible_at h rev)))) _ ∙ length-enumerate_from 0 (unstyled (length (visible_at h rev))) ∙ length-replicate (length (visible_at h rev)) None
