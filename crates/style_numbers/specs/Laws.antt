-- Laws of the ids of styles, which say nothing of how they are found.
use Rattle.std.specs.Prelude.{◌≡◌, ℕ, ◌+◌, List, [], ◌∷◌, ◌++◌, map, Some, slice_get, ⊤}
use Rattle.plain_edits.specs.declared.style.Span.{Span}
use Rattle.plain_edits.specs.declared.style.Style.{Style}
use Rattle.xi_plain.specs.declared.span.WireSpan.{WireSpan}
use Rattle.span_styles.specs.Table.{HasId, next_id}
use Rattle.view_update.specs.declared.note.NumberedStyle.{NumberedStyle}
use Rattle.style_numbers.specs.Numbers.{new_styles, spans_with_ids, styles_with}

-- each span stands where it did, and its style has its id in the table
abbrev pub HaveTheirIds : List Style → List WireSpan → List Span → Type 0
HaveTheirIds styles [] [] = ⊤
HaveTheirIds styles [] (span ∷ spans) = ⊥
HaveTheirIds styles (given ∷ all) [] = ⊥
HaveTheirIds styles (given ∷ all) (span ∷ spans) =
    (span.start ≡ given.start) × (span.end ≡ given.end) × HasId styles given.style span.style × HaveTheirIds styles all spans

-- EACH STYLE HAS ITS ID in the table after the spans
abbrev pub StylesHaveTheirIds : Type 0
StylesHaveTheirIds = (styles : List Style) (spans : List WireSpan) → HaveTheirIds (styles_with styles spans) spans (spans_with_ids styles spans)

-- the ids are this one and those that follow it
abbrev pub HaveIdsFrom : ℕ → List NumberedStyle → Type 0
HaveIdsFrom id [] = ⊤
HaveIdsFrom id (first ∷ rest) = (first.id ≡ id) × HaveIdsFrom (id + 1) rest

-- THE TABLE GROWS AT ITS END, by the styles that are new, which have the ids that come next
pub record NewStylesStandAtTheEnd : Type 0 where
  pub table : (styles : List Style) (spans : List WireSpan) →
      styles_with styles spans ≡ styles ++ map (λ (numbered : NumberedStyle). numbered.style) (new_styles styles spans)
  pub ids : (styles : List Style) (spans : List WireSpan) → HaveIdsFrom (next_id styles) (new_styles styles spans)

-- no style stands in the table twice
abbrev pub AreDistinct : List Style → Type 0
AreDistinct styles = (i j : ℕ) (style : Style) → slice_get styles i ≡ Some style → slice_get styles j ≡ Some style → i ≡ j

-- EQUAL STYLES SHARE ONE ID: a table without a style twice has none twice after spans
abbrev pub EqualStylesShareAnId : Type 0
EqualStylesShareAnId = (styles : List Style) (spans : List WireSpan) → AreDistinct styles → AreDistinct (styles_with styles spans)
