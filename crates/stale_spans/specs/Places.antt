-- Ranges and spans in bytes of a text: what of them is no place, and which characters they have.
use Rattle.std.specs.Prelude.{ℕ, ◌+◌, ◌≤◌, Bool, not, ◌&&◌, if◌then◌else◌, List, map, Option, None, Some}
use Rattle.std.specs.List.{list_all, AllByRecursion}
use Rattle.plain_text.specs.Text.{gap_of, is_place}
use Rattle.plain_edits.specs.declared.style.Span.{Span}
use Rattle.span_styles.specs.declared.spanned.SpannedRange.{SpannedRange}
use Rattle.stale_spans.specs.declared.fault.Misplaced.{Misplaced}
use Rattle.stale_spans.specs.declared.fault.Misplaced.TheVariants.{Start, Len, Spans}

-- whether both ends of a span, which counts from a byte offset on, are places of the text
abbrev pub is_span_placed : List ℕ → ℕ → Span → Bool
is_span_placed text from span = is_place text (from + span.start) && is_place text (from + span.end)

-- THE FIRST that is no place of the text: the start of the range, its end, or an end of a span
abbrev pub misplaced : List ℕ → ℕ → ℕ → List Span → Option Misplaced
misplaced text start len spans =
    if not (is_place text start) then Some Start else (
    if not (is_place text (start + len)) then Some Len else (
    if not (list_all (is_span_placed text start) spans) then Some Spans else None))

-- a span in characters of the text
abbrev pub meant_span : List ℕ → ℕ → Span → Span
meant_span text from span = record { start = gap_of text (from + span.start); end = gap_of text (from + span.end); style = span.style }

-- THE RANGE AND ITS SPANS in characters of the text
abbrev pub meant_range : List ℕ → ℕ → ℕ → List Span → SpannedRange
meant_range text start len spans = record {
  range = record { start = gap_of text start; end = gap_of text (start + len) };
  spans = map (meant_span text start) spans;
}

-- each span stands in a range of so many bytes
abbrev pub StandIn : ℕ → List Span → Type 0
StandIn len spans = AllByRecursion (λ span. (span.start ≤ span.end) × (span.end ≤ len)) spans
