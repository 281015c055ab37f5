-- The spans that layers show in a range.
use Rattle.std.specs.Prelude.{ℕ, ◌+◌, ◌==◌, ◌&&◌, if◌then◌else◌, List, [], ◌∷◌, Option, None, Some, slice_range}
use Rattle.std.specs.List.{flat_map}
use Rattle.std.specs.declared.cmp.Ordering.{Ordering}
use Rattle.std.specs.Ordering.{nat_cmp, ordering_then, is_lt}
use Rattle.plain_text.specs.declared.run.Run.{Run}
use Rattle.plain_edits.specs.declared.style.Span.{Span}
use Rattle.plain_edits.specs.Styles.{Layer}

-- the spans with the character with this index before them: it joins the first one where that begins directly after it in the same style
abbrev pub onto_spans : ℕ → Option ℕ → List Span → List Span
onto_spans index None spans = spans
onto_spans index (Some style) [] = record { start = index; end = index + 1; style = style } ∷ []
onto_spans index (Some style) (next ∷ spans) =
    if next.start == index + 1 && next.style == style
    then record { start = index; end = next.end; style = style } ∷ spans
    else record { start = index; end = index + 1; style = style } ∷ next ∷ spans

-- THE MAXIMAL RUNS of one style in a layer, whose first character has this index
abbrev pub spans_from : ℕ → Layer → List Span
spans_from index [] = []
spans_from index (style ∷ layer) = onto_spans index style (spans_from (index + 1) layer)

-- the same within a range, as if nothing stood outside of it
abbrev pub spans_in : Run → Layer → List Span
spans_in range layer = spans_from range.start (slice_range layer range.start range.end)

-- spans stand by start, then by style, then by end
abbrev pub span_cmp : Span → Span → Ordering
span_cmp a b = ordering_then (ordering_then (nat_cmp a.start b.start) (nat_cmp a.style b.style)) (nat_cmp a.end b.end)

-- the spans with one more in its place
abbrev pub with_span : Span → List Span → List Span
with_span span [] = span ∷ []
with_span span (first ∷ spans) = if is_lt (span_cmp first span) then first ∷ with_span span spans else span ∷ first ∷ spans

-- spans in order
abbrev pub sorted_spans : List Span → List Span
sorted_spans [] = []
sorted_spans (span ∷ spans) = with_span span (sorted_spans spans)

-- THE SPANS OF LAYERS within a range: those of each layer, in order; one that two layers have is there twice
abbrev pub spans_of : List Layer → Run → List Span
spans_of layers range = sorted_spans (flat_map (spans_in range) layers)
