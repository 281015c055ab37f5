-- How styles stay with their characters where a revision is made, and what spans against a revision make of them.
use Rattle.std.specs.Prelude.{ℕ, Bool, ◌&&◌, if◌then◌else◌, nat_lt, nat_le, List, [], ◌∷◌, map, take, Option, Some, None, slice_get}
use Rattle.std.specs.List.{count_by}
use Rattle.plain_text.specs.declared.run.Run.{Run}
use Rattle.plain_text.specs.Woven.{woven}
use Rattle.plain_edits.specs.declared.style.Span.{Span}
use Rattle.plain_edits.specs.History.{History, head, is_visible}
use Rattle.plain_edits.specs.Change.{passes_at, shown_indices}
use Rattle.plain_edits.specs.HistorySteps.{Step, after_step}

-- a layer has one style, if any, for each character of a text: the id of the style
abbrev pub Layer : Type 0
Layer = List (Option ℕ)

-- the style that stands there, if one does
abbrev pub joined_style : Option (Option ℕ) → Option ℕ
joined_style None = None
joined_style (Some style) = style

-- the style with this index in a layer; past its end there is none
abbrev pub style_at : Layer → ℕ → Option ℕ
style_at layer index = joined_style (slice_get layer index)

-- the number, in the text of a revision, of the character with this index in the list
abbrev pub number_at : History → ℕ → ℕ → ℕ
number_at history rev index = count_by (is_visible history.revisions rev) (take index history.characters)

-- whether a revision shows the character with this index
abbrev pub is_shown_at : History → ℕ → ℕ → Bool
is_shown_at history rev index = passes_at (is_visible history.revisions rev) index history.characters

-- the style that a layer over the text of a revision gives the character with this index; what is not shown there has none
abbrev pub style_of : History → ℕ → Layer → ℕ → Option ℕ
style_of history rev layer index = if is_shown_at history rev index then style_at layer (number_at history rev index) else None

-- THE STYLE RULE between two revisions: what both show keeps its style, and what appears has none
abbrev pub carried_layer : History → ℕ → ℕ → Layer → Layer
carried_layer history from to layer = map (style_of history from layer) (shown_indices history to)

-- over two histories, of which the later one has all characters of the other
abbrev pub moved_layer : History → History → Layer → Layer
moved_layer before after layer = carried_layer after (head before) (head after) layer

-- over some steps, one after the other
abbrev pub layer_after_steps : History → List Step → Layer → Layer
layer_after_steps history [] layer = layer
layer_after_steps history (step ∷ steps) layer =
    layer_after_steps (after_step history step) steps (moved_layer history (after_step history step) layer)

-- over an edit in characters: what is kept keeps its style, and what is added has none
abbrev pub mapped_layer : (ℕ → Bool) → (ℕ → List ℕ) → Layer → Layer
mapped_layer kept added layer =
    woven (λ gap. map (λ c. None) (added gap)) (λ index style. if kept index then style ∷ [] else []) 0 layer

-- whether the span covers the character with this index
abbrev pub covers : Span → ℕ → Bool
covers span index = nat_le span.start index && nat_lt index span.end

-- a style, or else another one
abbrev pub or_style : Option ℕ → Option ℕ → Option ℕ
or_style (Some style) other = Some style
or_style None other = other

-- the style that spans give the character with this index: of two spans over it the later one wins
abbrev pub span_style : List Span → ℕ → Option ℕ
span_style [] index = None
span_style (span ∷ spans) index = or_style (span_style spans index) (if covers span index then Some span.style else None)

-- what spans over a range make of the style of the character with this index: in the range they clear it, and then style it
abbrev pub spanned_style : Run → List Span → ℕ → Option ℕ → Option ℕ
spanned_style range spans index style = if nat_le range.start index && nat_lt index range.end then span_style spans index else style

-- SPANS AGAINST A REVISION, over a layer of the head text: they reach those characters of their range that are shown at the head
abbrev pub with_spans : History → ℕ → Run → List Span → Layer → Layer
with_spans history rev range spans layer =
    map (λ index. if is_shown_at history rev index
    then spanned_style range spans (number_at history rev index) (style_of history (head history) layer index)
    else style_of history (head history) layer index) (shown_indices history (head history))
