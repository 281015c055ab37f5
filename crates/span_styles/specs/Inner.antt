-- What private functions say: layers as runs of one style, and walks over them.
use Rattle.std.specs.Prelude.{◌≡◌, ◌≢◌, ◌⊎◌, ℕ, suc, ◌+◌, ◌-◌, ◌^◌, ◌<◌, Bool, true, false, List, [], ◌∷◌, ◌++◌, length, map, replicate, take, drop, min, Option, None, Some, is_some, slice_get}
use Rattle.std.specs.List.{range_with_len}
use Rattle.plain_text.specs.declared.run.Run.{Run}
use Rattle.plain_edits.specs.declared.style.Span.{Span}
use Rattle.plain_edits.specs.declared.delta.UnitDelta.{UnitDelta}
use Rattle.plain_edits.specs.Styles.{Layer, or_style, span_style}
use Rattle.delta_core.specs.UnitStep.{UnitStep, Kept, Dropped, New}
use Rattle.span_styles.specs.declared.run.StyleRun.{StyleRun}
use Rattle.span_styles.specs.declared.run.Stretch.{Stretch}

-- the layer that runs make, of which the first starts at this gap
abbrev pub layer_of : ℕ → List StyleRun → Layer
layer_of from [] = []
layer_of from (run ∷ runs) = replicate (run.end - from) run.style ++ layer_of run.end runs

-- the first run, if there is one, has another style
abbrev pub BeginsOtherwise : Option ℕ → List StyleRun → Type 0
BeginsOtherwise style [] = Unit {0}
BeginsOtherwise style (run ∷ runs) = style ≢ run.style

-- no run is empty, and no two neighbours have one style
abbrev pub AreStyleRuns : ℕ → List StyleRun → Type 0
AreStyleRuns from [] = Unit {0}
AreStyleRuns from (run ∷ runs) = (from < run.end) × BeginsOtherwise run.style runs × AreStyleRuns run.end runs

-- whether some of the runs has a style: of two neighbours one has
abbrev pub has_style : List StyleRun → Bool
has_style [] = false
has_style (run ∷ []) = is_some run.style
has_style (run ∷ next ∷ runs) = true

-- the last run goes where it has this style
abbrev pub LosesLast : Option ℕ → List StyleRun → List StyleRun → Type 0
LosesLast style old new =
    ((run : StyleRun) × (run.style ≡ style) × (old ≡ new ++ run ∷ [])) ⊎
    ((new ≡ old) × ((front : List StyleRun) (run : StyleRun) → old ≡ front ++ run ∷ [] → run.style ≢ style))

-- the runs are those of this layer, and the first one has a character at this gap
pub record IsRestAt (at : ℕ) (layer : Layer) (rest : List StyleRun) : Type 0 where
  pub runs : AreStyleRuns at rest
  pub is : layer_of at rest ≡ layer

-- what a walk keeps: the runs from a gap on, whose ends fit 64 bits
pub record IsAhead (at : ℕ) (runs : List StyleRun) : Type 0 where
  pub are : AreStyleRuns at runs
  pub room : at + length (layer_of at runs) < 2 ^ 64

-- the stretch is the longest front of the layer that has one style
pub record IsStyleFront (layer : Layer) (front : Stretch) : Type 0 where
  pub some : 0 < front.len
  pub same : layer ≡ replicate front.len front.style ++ drop front.len layer
  pub longest : slice_get layer front.len ≢ Some front.style

-- the styles of the one layer where it has any, else those of the other
abbrev pub overlaid_layer : Layer → Layer → Layer
overlaid_layer [] below = []
overlaid_layer (style ∷ above) [] = []
overlaid_layer (style ∷ above) (other ∷ below) = or_style style other ∷ overlaid_layer above below

-- the styles that spans give the characters of a range
abbrev pub styles_in : Run → List Span → Layer
styles_in range spans = map (span_style spans) (range_with_len range.start (range.end - range.start))

-- what is ahead of an edit, over the layer of the characters that are ahead: what is kept keeps its style, and what is added has none
abbrev pub layer_of_steps : List UnitStep → Layer → Layer
layer_of_steps [] layer = []
layer_of_steps (New c ∷ steps) layer = None ∷ layer_of_steps steps layer
layer_of_steps (Kept ∷ steps) [] = []
layer_of_steps (Kept ∷ steps) (style ∷ layer) = style ∷ layer_of_steps steps layer
layer_of_steps (Dropped ∷ steps) [] = []
layer_of_steps (Dropped ∷ steps) (style ∷ layer) = layer_of_steps steps layer

-- the runs are one with all of so many characters, or none of none
abbrev pub IsWhole : ℕ → List Run → Type 0
IsWhole base [] = base ≡ 0
IsWhole base (run ∷ []) = (run.start ≡ 0) × (run.end ≡ base)
IsWhole base (run ∷ next ∷ runs) = ⊥

-- the edit keeps all characters, in one run, and adds none
abbrev pub LeavesAll : UnitDelta → Type 0
LeavesAll units = IsWhole units.base units.kept × (units.added ≡ [])

-- how many characters there are after the steps
abbrev pub shown_count : List UnitStep → ℕ
shown_count [] = 0
shown_count (New c ∷ steps) = suc (shown_count steps)
shown_count (Kept ∷ steps) = suc (shown_count steps)
shown_count (Dropped ∷ steps) = shown_count steps

-- the span from one gap to another, where there is a style
abbrev pub one_span : ℕ → ℕ → Option ℕ → List Span
one_span start end None = []
one_span start end (Some style) = record { start = start; end = end; style = style } ∷ []

-- two layers are the same where no gap is named; else they differ, and not left of the gap
abbrev pub IsApartFrom : Option ℕ → Layer → Layer → Type 0
IsApartFrom None layer other = layer ≡ other
IsApartFrom (Some at) layer other = (layer ≢ other) × (take at layer ≡ take at other)

-- the lesser of two gaps, of which there may be one, or none
abbrev pub least_of : Option ℕ → Option ℕ → Option ℕ
least_of None other = other
least_of (Some at) None = Some at
least_of (Some at) (Some gap) = Some (min at gap)
