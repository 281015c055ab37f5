-- Spans of a plugin against a revision: what they make of the layers of the head text, and how these follow a revision.
use Rattle.std.specs.Prelude.{ℕ, List, map, slice_set}
use Rattle.plain_edits.specs.History.{History, text_at}
use Rattle.plain_edits.specs.Styles.{Layer, moved_layer, with_spans}
use Rattle.span_styles.specs.Layers.{layer_at}
use Rattle.stale_spans.specs.declared.asked.AskedSpans.{AskedSpans}
use Rattle.stale_spans.specs.Places.{meant_range}

-- THE LAYERS AFTER SPANS against a revision, over one of the layers of the head text: those of their characters that the head shows lose
-- what the layer says of them, and get what the spans say
abbrev pub layers_with_spans : History → AskedSpans → ℕ → List Layer → List Layer
layers_with_spans history asked layer layers =
    let spanned = meant_range (text_at history asked.rev) asked.start asked.len asked.spans in
    slice_set layers layer (with_spans history asked.rev spanned.range spanned.spans (layer_at layers layer))

-- THE LAYERS AT A REVISION, by the style rule: over the histories before and after it
abbrev pub moved_layers : History → History → List Layer → List Layer
moved_layers before after layers = map (moved_layer before after) layers
