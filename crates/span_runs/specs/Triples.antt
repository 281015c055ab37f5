-- The triples of a line: its styles in bytes, as a front end is told them.
use Rattle.std.specs.Prelude.{ℕ, ◌-◌, ◌≤◌, pos, ◌-ℤ◌, List, [], ◌∷◌}
use Rattle.std.specs.List.{AllByRecursion}
use Rattle.plain_text.specs.Text.{place_of}
use Rattle.plain_edits.specs.declared.style.Span.{Span}
use Rattle.plain_screen.specs.declared.screen.Triple.{Triple}
use Rattle.span_runs.specs.Spans.{sorted_spans}

-- the triples of spans that stand in order, where the span before them ends at this byte: the start counts from there, and may lie before it
abbrev pub triples_after : List ℕ → ℕ → List Span → List Triple
triples_after line end [] = []
triples_after line end (span ∷ spans) =
    record {
      start = pos (place_of line span.start) -ℤ pos end;
      len = place_of line span.end - place_of line span.start;
      id = span.style;
    } ∷ triples_after line (place_of line span.end) spans

-- THE TRIPLES of spans in any order
abbrev pub triples_of : List ℕ → List Span → List Triple
triples_of line spans = triples_after line 0 (sorted_spans spans)

-- spans that lie in a line of this length
abbrev pub LieInLine : ℕ → List Span → Type 0
LieInLine len spans = AllByRecursion (λ span. (span.start ≤ span.end) × (span.end ≤ len)) spans
