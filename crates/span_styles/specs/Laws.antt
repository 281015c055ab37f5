-- Laws of layers: the style rule over an edit, with what is dead before and after it; and what a layer shows.
use Rattle.std.specs.Prelude.{◌≡◌, ◌≢◌, ℕ, ◌+◌, ◌<◌, ◌≤◌, Bool, true, false, List, [], ◌∷◌, length, None}
use Rattle.plain_edits.specs.declared.style.Span.{Span}
use Rattle.plain_edits.specs.declared.delta.UnitDelta.{UnitDelta}
use Rattle.plain_edits.specs.UnitDelta.{unit_keeps, unit_adds}
use Rattle.plain_edits.specs.Styles.{Layer, mapped_layer}
use Rattle.subset_runs.specs.Subset.{items_outside}
use Rattle.delta_core.specs.Synthesis.{IsBetween}
use Rattle.span_runs.specs.Spans.{spans_from}
use Rattle.span_styles.specs.Layers.{unstyled, spanned_from}

-- the styles of all characters of a text, dead and alive: those that are alive have these, in order, and the dead have none
abbrev pub styles_with_dead : List Bool → Layer → Layer
styles_with_dead [] layer = []
styles_with_dead (true ∷ dead) layer = None ∷ styles_with_dead dead layer
styles_with_dead (false ∷ dead) [] = None ∷ styles_with_dead dead []
styles_with_dead (false ∷ dead) (style ∷ layer) = style ∷ styles_with_dead dead layer

-- over the change between two visible lists of one text, what is visible in both keeps its style, and no other has any
abbrev pub StylesFollowCharacters : Type 0
StylesFollowCharacters = (union : List ℕ) (before after : List Bool) (units : UnitDelta) (layer : Layer) →
    length before ≡ length union → length after ≡ length union → IsBetween union before after units → length layer ≡ units.base →
    mapped_layer (unit_keeps units) (unit_adds units) layer ≡ items_outside after (styles_with_dead before layer)

-- a span that begins where this one ends has another style
abbrev pub GoesOnOtherwise : Span → List Span → Type 0
GoesOnOtherwise span [] = Unit {0}
GoesOnOtherwise span (next ∷ spans) = next.start ≡ span.end → next.style ≢ span.style

-- no span is empty or begins before the one before it ends, and no two of them could be one
abbrev pub AreLongest : ℕ → List Span → Type 0
AreLongest from [] = Unit {0}
AreLongest from (span ∷ spans) = (from ≤ span.start) × (span.start < span.end) × GoesOnOtherwise span spans × AreLongest span.end spans

-- the spans that a layer shows are its longest runs of one style, and over as many characters without a style they make it again
pub record SpansMakeTheirLayer (from : ℕ) (layer : Layer) : Type 0 where
  pub longest : AreLongest from (spans_from from layer)
  pub back :
      spanned_from from (unstyled (length layer))
      (record { range = record { start = from; end = from + length layer }; spans = spans_from from layer }) ≡ layer

-- this of every layer
abbrev pub SpansMakeTheirLayers : Type 0
SpansMakeTheirLayers = (from : ℕ) (layer : Layer) → SpansMakeTheirLayer from layer
