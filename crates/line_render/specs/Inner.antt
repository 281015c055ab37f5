-- What private functions say: which regions and spans touch a piece, and walks over them.
use Rattle.std.specs.Prelude.{ℕ, ◌+◌, ◌-◌, min, ◌&&◌, not, if◌then◌else◌, nat_lt, nat_le, ◌==◌, List, [], ◌∷◌, Option, Some, None}
use Rattle.std.specs.List.{filter}
use Rattle.plain_text.specs.declared.run.Run.{Run}
use Rattle.plain_text.specs.declared.selection.Region.{Region}
use Rattle.plain_edits.specs.declared.style.Span.{Span}
use Rattle.selection_core.specs.Selection.{lesser_end, greater_end}

-- the regions that have an end between two gaps, or stand over both
abbrev pub touching_regions : ℕ → ℕ → List Region → List Region
touching_regions start end regions = filter (λ region. nat_le (lesser_end region) end) (filter (λ region. not (nat_lt (greater_end region) start)) regions)

-- the spans that may have a character between two gaps
abbrev pub touching_spans : ℕ → ℕ → List Span → List Span
touching_spans start end spans = filter (λ span. nat_lt span.start end) (filter (λ span. not (nat_le span.end start)) spans)

-- the gaps of these carets, counted from `start`, that are among the first `gaps`: each once, and from `low` on
abbrev pub shown_gaps : ℕ → ℕ → ℕ → List ℕ → List ℕ
shown_gaps start gaps low [] = []
shown_gaps start gaps low (caret ∷ carets) =
    if nat_le (start + low) caret && nat_lt caret (start + gaps)
    then (caret - start) ∷ shown_gaps start gaps (caret - start + 1) carets
    else shown_gaps start gaps low carets

-- a run as a span of one style
abbrev pub styled_span : ℕ → Run → Span
styled_span style run = record { start = run.start; end = run.end; style = style }

-- spans with a run of one style before them, which joins the first one where that begins at its end in the same style
abbrev pub onto_run : ℕ → Run → List Span → List Span
onto_run style run [] = styled_span style run ∷ []
onto_run style run (next ∷ spans) =
    if next.start == run.end && next.style == style
    then record { start = run.start; end = next.end; style = style } ∷ spans
    else styled_span style run ∷ next ∷ spans

-- the same of a run of selected characters, where it is there, and where it is not empty
abbrev pub onto_some : Option Run → List Span → List Span
onto_some None spans = spans
onto_some (Some run) spans = onto_run 0 run spans

abbrev pub onto_any : Run → List Span → List Span
onto_any run spans = if nat_lt run.start run.end then onto_run 0 run spans else spans

-- a region as far as it stands between two gaps, counted from the first
abbrev pub cut_region : ℕ → ℕ → Region → Run
cut_region start end region = record { start = min (lesser_end region) end - start; end = min (greater_end region) end - start }

-- the runs of what is selected between two gaps, region by region
abbrev pub selected_runs : ℕ → ℕ → List Region → List Span
selected_runs start end [] = []
selected_runs start end (region ∷ regions) = onto_any (cut_region start end region) (selected_runs start end regions)
