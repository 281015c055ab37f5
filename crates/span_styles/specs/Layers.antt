-- Layers of styles over a text, and what is done to them. A contract sees each as one optional style for each character.
use Rattle.std.specs.Prelude.{◌≡◌, ◌≢◌, ℕ, ◌≤◌, List, length, map, replicate, Option, None, Some, fold, slice_set, slice_index_or, [], ◌∷◌}
use Rattle.std.specs.List.{AllByRecursion, enumerate_from, flat_map}
use Rattle.plain_text.specs.declared.run.Run.{Run}
use Rattle.plain_edits.specs.declared.style.Span.{Span}
use Rattle.plain_edits.specs.declared.delta.UnitDelta.{UnitDelta}
use Rattle.plain_edits.specs.UnitDelta.{unit_keeps, unit_adds}
use Rattle.plain_edits.specs.Styles.{Layer, mapped_layer, spanned_style}
use Rattle.span_runs.specs.Spans.{spans_in}
use Rattle.span_styles.specs.declared.spanned.SpannedRange.{SpannedRange}

-- a layer in which no character has a style
abbrev pub unstyled : ℕ → Layer
unstyled len = replicate len None

-- NEW LAYERS over a text of this length
abbrev pub new_layers : ℕ → ℕ → List Layer
new_layers n len = replicate n (unstyled len)

-- the layer with this index
abbrev pub layer_at : List Layer → ℕ → Layer
layer_at layers index = slice_index_or layers index []

-- what spans over a range make of styles, of which the first is that of the character with this index: the range is cleared and then
-- styled, and of two spans over one character the later one wins
abbrev pub spanned_from : ℕ → Layer → SpannedRange → Layer
spanned_from index layer spanned = map (λ (i, style). spanned_style spanned.range spanned.spans i style) (enumerate_from index layer)

-- the same of a whole layer
abbrev pub spanned_layer : Layer → SpannedRange → Layer
spanned_layer layer spanned = spanned_from 0 layer spanned

-- THE LAYERS AFTER SPANS over ranges of one of them, one after the other
abbrev pub spanned_layers : List Layer → ℕ → List SpannedRange → List Layer
spanned_layers layers index ranges = slice_set layers index (fold spanned_layer (layer_at layers index) ranges)

-- THE LAYERS AFTER AN EDIT, by the style rule: what is kept keeps its styles, and what is added has none
abbrev pub mapped_layers : UnitDelta → List Layer → List Layer
mapped_layers units layers = map (mapped_layer (unit_keeps units) (unit_adds units)) layers

-- each layer is over a text of this length
abbrev pub AreOver : ℕ → List Layer → Type 0
AreOver len layers = AllByRecursion (λ layer. length layer ≡ len) layers

-- how long a layer is after an edit
abbrev pub length_after : UnitDelta → ℕ
length_after units = length (mapped_layer (unit_keeps units) (unit_adds units) (unstyled units.base))

-- spans that lie within their range
abbrev pub LieIn : Run → List Span → Type 0
LieIn range spans = AllByRecursion (λ span. (range.start ≤ span.start) × (span.start ≤ span.end) × (span.end ≤ range.end)) spans

-- ranges that rise from a gap on and end by another, each with spans within it
abbrev pub RiseWithin : ℕ → ℕ → List SpannedRange → Type 0
RiseWithin from to [] = from ≤ to
RiseWithin from to (spanned ∷ ranges) =
    (from ≤ spanned.range.start) × (spanned.range.start ≤ spanned.range.end) × LieIn spanned.range spanned.spans ×
    RiseWithin spanned.range.end to ranges

-- two lists of layers are the same where no gap is named; else they differ, and up to the gap they show the same spans
abbrev pub AreApartFrom : Option ℕ → List Layer → List Layer → Type 0
AreApartFrom None layers others = layers ≡ others
AreApartFrom (Some at) layers others =
    (layers ≢ others) × ((range : Run) → range.end ≤ at → flat_map (spans_in range) layers ≡ flat_map (spans_in range) others)
