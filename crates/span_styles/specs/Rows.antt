-- Worked rows: small layers, with what the definitions are to give.
use Rattle.std.specs.Prelude.{◌≡◌, ℕ, List, [], ◌∷◌}
use Rattle.plain_text.specs.declared.run.Run.{Run}
use Rattle.plain_edits.specs.declared.style.Span.{Span}
use Rattle.plain_edits.specs.declared.delta.UnitDelta.{UnitDelta}
use Rattle.plain_edits.specs.Styles.{Layer}
use Rattle.span_runs.specs.Spans.{spans_in, spans_of}
use Rattle.span_runs.specs.Rows.{span}
use Rattle.span_styles.specs.Layers.{unstyled, spanned_layer, mapped_layers}

abbrev pub run : ℕ → ℕ → Run
run start end = record { start = start; end = end }

-- a layer after spans over a range
abbrev pub with_spans : Layer → Run → List Span → Layer
with_spans layer range spans = spanned_layer layer (record { range = range; spans = spans })

-- the layer over `abcd` with style 2 over 1 to 3
abbrev pub styled : Layer
styled = with_spans (unstyled 4) (run 0 4) (span 1 3 2 ∷ [])

-- the edits of `abcd` that put `X` at a gap, and that drop `b`
abbrev pub with_x : ℕ → UnitDelta
with_x gap = record { base = 4; kept = run 0 4 ∷ []; added = (record { gap = gap; text = 88 ∷ [] }) ∷ [] }

abbrev pub without_b : UnitDelta
without_b = record { base = 4; kept = run 0 1 ∷ run 2 4 ∷ []; added = [] }

-- a style stays with its character, and what is added has none
pub record StylesStay : Type 0 where
  pub before : spans_of (mapped_layers (with_x 0) (styled ∷ [])) (run 0 5) ≡ span 2 4 2 ∷ []
  pub inside : spans_of (mapped_layers (with_x 2) (styled ∷ [])) (run 0 5) ≡ span 1 2 2 ∷ span 3 4 2 ∷ []
  pub dropped : spans_of (mapped_layers without_b (styled ∷ [])) (run 0 3) ≡ span 1 2 2 ∷ []

-- a range is cleared, of two spans the later wins, neighbours of one style are one run, and two layers show one run twice
pub record SpansAreSet : Type 0 where
  pub cleared : spans_in (run 0 4) (with_spans styled (run 2 4) []) ≡ span 1 2 2 ∷ []
  pub later_wins : spans_in (run 0 4) (with_spans styled (run 0 4) (span 0 3 2 ∷ span 1 4 3 ∷ [])) ≡ span 0 1 2 ∷ span 1 4 3 ∷ []
  pub joined : spans_in (run 0 4) (with_spans styled (run 3 4) (span 3 4 2 ∷ [])) ≡ span 1 4 2 ∷ []
  pub cut : spans_in (run 2 4) styled ≡ span 2 3 2 ∷ []
  pub twice : spans_of (styled ∷ with_spans styled (run 0 1) (span 0 1 3 ∷ []) ∷ []) (run 0 4) ≡ span 0 1 3 ∷ span 1 3 2 ∷ span 1 3 2 ∷ []
