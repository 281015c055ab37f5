-- Lemmas on tables that grow.
use Rattle.std.proofs.Common.{◌≡◌, ◌⊎◌, inl, inr, ℕ, zero, suc, ◌+◌, List, [], ◌∷◌, ◌++◌, length, map, Option, Some, None, slice_get, refl, ap, sym, subst, ◌∙◌, arith, append_assoc, append-nil, length-append}
use Rattle.std.proofs.lemmas.List.{map-append}
use Rattle.std.specs.Prelude.{unwrap_or}
use Rattle.plain_edits.specs.declared.style.Style.{Style}
use Rattle.view_update.specs.declared.note.NumberedStyle.{NumberedStyle}
use Rattle.xi_plain.specs.declared.span.WireSpan.{WireSpan}
use Rattle.span_styles.specs.Table.{HasId, next_id}
use Rattle.style_numbers.specs.Laws.{AreDistinct, EqualStylesShareAnId, HaveIdsFrom, NewStylesStandAtTheEnd, StylesHaveTheirIds}
use Rattle.style_numbers.specs.Numbers.{defined_by, id_for, id_of, new_by, new_style, new_styles, styles_with, with_style}
use Rattle.style_numbers.proofs.NumberLemmas.{absent, id_from-found}

-- ---- one style

style_of : NumberedStyle → Style
style_of numbered = numbered.style

grows_by : (found : Option ℕ) (styles : List Style) (style : Style) → defined_by found styles style ≡ styles ++ map style_of (new_by found styles style)
unfolding style_of
grows_by None styles style = refl
grows_by (Some id) styles style = sym (append-nil styles)

get_front : (styles more : List Style) (style : Style) (i : ℕ) → slice_get styles i ≡ Some style → slice_get (styles ++ more) i ≡ Some style
get_front [] more style i is = absurd (let no = is in cc)
get_front (s ∷ styles) more style zero is = is
get_front (s ∷ styles) more style (suc i) is = get_front styles more style i is

get_end : (styles : List Style) (style : Style) → slice_get (styles ++ style ∷ []) (length styles) ≡ Some style
get_end [] style = refl
get_end (s ∷ styles) style = get_end styles style

has_then : (styles : List Style) (style : Style) → HasId (with_style styles style) style (id_for styles style)
has_then styles style = by (id_of styles style) refl
  where
    by : (found : Option ℕ) → id_of styles style ≡ found → HasId (defined_by found styles style) style (unwrap_or found (next_id styles))
    by None is = (length styles, refl, get_end styles style)
    by (Some id) is = id_from-found 2 id styles style is

-- ---- all of them

-- what has an id keeps it
grows : (styles : List Style) (spans : List WireSpan) → styles_with styles spans ≡ styles ++ map style_of (new_styles styles spans)
grows styles [] = sym (append-nil styles)
grows styles (span ∷ spans) =
    let one = new_style styles span.style in
    grows (with_style styles span.style) spans ∙
    ap (λ all. all ++ map style_of (new_styles (with_style styles span.style) spans)) (grows_by (id_of styles span.style) styles span.style) ∙
    append_assoc styles (map style_of one) (map style_of (new_styles (with_style styles span.style) spans)) ∙
    ap (λ all. styles ++ all) (sym (map-append style_of one (new_styles (with_style styles span.style) spans)))

keeps_id : (styles : List Style) (spans : List WireSpan) (style : Style) (id : ℕ) → HasId styles style id → HasId (styles_with styles spans) style id
keeps_id styles spans style id (index, is, there) =
    let At : List Style → Type 0 = λ all. slice_get all index ≡ Some style in
    (index, is, subst At (sym (grows styles spans)) (get_front styles (map style_of (new_styles styles spans)) style index there))

pub styles_have_their_ids : StylesHaveTheirIds
styles_have_their_ids styles [] = tt
styles_have_their_ids styles (span ∷ spans) =
    let next = with_style styles span.style in
    (refl, refl, keeps_id next spans span.style (id_for styles span.style) (has_then styles span.style), styles_have_their_ids next spans)

ids_by : (found : Option ℕ) (styles : List Style) (style : Style) (rest : List NumberedStyle) →
    HaveIdsFrom (next_id (defined_by found styles style)) rest → HaveIdsFrom (next_id styles) (new_by found styles style ++ rest)
ids_by None styles style rest have =
    let next : next_id (styles ++ style ∷ []) ≡ next_id styles + 1 = omega (arith, length-append styles (style ∷ [])) in
    (refl, subst (λ id. HaveIdsFrom id rest) next have)
ids_by (Some id) styles style rest have = have

ids_rise : (styles : List Style) (spans : List WireSpan) → HaveIdsFrom (next_id styles) (new_styles styles spans)
ids_rise styles [] = tt
ids_rise styles (span ∷ spans) =
    ids_by (id_of styles span.style) styles span.style (new_styles (with_style styles span.style) spans) (ids_rise (with_style styles span.style) spans)

pub new_styles_stand_at_the_end : NewStylesStandAtTheEnd
unfolding style_of
new_styles_stand_at_the_end = record { table = grows; ids = ids_rise }

get_push : (styles : List Style) (style other : Style) (i : ℕ) → slice_get (styles ++ style ∷ []) i ≡ Some other →
    (slice_get styles i ≡ Some other) ⊎ ((i ≡ length styles) × (style ≡ other))
get_push [] style other zero is = inr (refl, let same : style ≡ other = cc in same)
get_push [] style other (suc i) is = absurd (let no = is in cc)
get_push (s ∷ styles) style other zero is = inl is
get_push (s ∷ styles) style other (suc i) is =
    elim (get_push styles style other i is) [ inl there ↦ inl there | inr last ↦ inr (omega (arith, last.0), last.1) ]

distinct_push : (styles : List Style) (style : Style) → id_of styles style ≡ None → AreDistinct styles → AreDistinct (styles ++ style ∷ [])
distinct_push styles style none distinct i j other one two =
    elim (get_push styles style other i one) [
      | inl there ↦ elim (get_push styles style other j two) [
        | inl here ↦ distinct i j other there here
        | inr last ↦ absurd (absent styles style none (i + 2) (i, refl, there ∙ ap Some (sym last.1)))
      ]
      | inr last ↦ elim (get_push styles style other j two) [
        | inl here ↦ absurd (absent styles style none (j + 2) (j, refl, here ∙ ap Some (sym last.1)))
        | inr end ↦ omega (arith, last.0, end.0)
      ]
    ]

distinct_with : (styles : List Style) (style : Style) → AreDistinct styles → AreDistinct (with_style styles style)
distinct_with styles style distinct = by (id_of styles style) refl
  where
    by : (found : Option ℕ) → id_of styles style ≡ found → AreDistinct (defined_by found styles style)
    by None is = distinct_push styles style is distinct
    by (Some id) is = distinct

pub equal_styles_share_an_id : EqualStylesShareAnId
equal_styles_share_an_id styles [] distinct = distinct
equal_styles_share_an_id styles (span ∷ spans) distinct =
    equal_styles_share_an_id (with_style styles span.style) spans (distinct_with styles span.style distinct)
