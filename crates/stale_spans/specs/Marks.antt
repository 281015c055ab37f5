-- What private functions say: a range and its spans as marks of one layer, which an edit carries along.
use Rattle.std.specs.Prelude.{ℕ, zero, suc, ◌+◌, List, [], ◌∷◌, Option, None, Some, slice_get, option_map}
use Rattle.plain_text.specs.declared.run.Run.{Run}
use Rattle.plain_edits.specs.declared.style.Span.{Span}
use Rattle.plain_edits.specs.declared.delta.UnitDelta.{UnitDelta}
use Rattle.plain_edits.specs.UnitDelta.{unit_keeps, unit_adds}
use Rattle.plain_edits.specs.Styles.{Layer, mapped_layer}
use Rattle.span_styles.specs.declared.spanned.SpannedRange.{SpannedRange}
use Rattle.span_styles.specs.Layers.{unstyled, spanned_layer}

-- the spans with their numbers in the place of their styles, from this number on
abbrev pub numbered_spans : ℕ → List Span → List Span
numbered_spans number [] = []
numbered_spans number (span ∷ spans) = record { start = span.start; end = span.end; style = number } ∷ numbered_spans (number + 1) spans

-- the marks of a range and its spans: the range has mark 0, and over it each span its number from 1 on
abbrev pub marks_of : Run → List Span → List Span
marks_of range spans = record { start = range.start; end = range.end; style = 0 } ∷ numbered_spans 1 spans

-- the style that a mark stands for, if any
abbrev pub meaning_of : List Span → ℕ → Option ℕ
meaning_of spans zero = None
meaning_of spans (suc number) = option_map (λ span. span.style) (slice_get spans number)

-- the style of a character over which a mark is put, if one is
abbrev pub style_under : (ℕ → Option ℕ) → Option ℕ → Option ℕ → Option ℕ
style_under means None style = style
style_under means (Some mark) style = means mark

-- the layer over which marks are put
abbrev pub layer_under : (ℕ → Option ℕ) → Layer → Layer → Layer
layer_under means [] layer = []
layer_under means (mark ∷ marks) [] = []
layer_under means (mark ∷ marks) (style ∷ layer) = style_under means mark style ∷ layer_under means marks layer

-- the span with this style instead, if there is one
abbrev pub restyled : Span → Option ℕ → List Span
restyled mark None = []
restyled mark (Some style) = record { start = mark.start; end = mark.end; style = style } ∷ []

-- the range of a mark, with what it stands for
abbrev pub piece_of : (ℕ → Option ℕ) → Span → SpannedRange
piece_of means mark = record { range = record { start = mark.start; end = mark.end }; spans = restyled mark (means mark.style) }

-- the layer of so many characters that has these marks in a range, and it after an edit of these characters
abbrev pub marked_layer : ℕ → Run → List Span → Layer
marked_layer len range marks = spanned_layer (unstyled len) (record { range = range; spans = marks })

abbrev pub carried_marks : UnitDelta → Run → List Span → Layer
carried_marks units range marks = mapped_layer (unit_keeps units) (unit_adds units) (marked_layer units.base range marks)
