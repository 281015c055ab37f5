-- Worked rows of ranges and spans in bytes: of the text `aéb`, whose places are 0, 1, 3 and 4.
use Rattle.std.specs.Prelude.{◌≡◌, ℕ, List, [], ◌∷◌, Some, None}
use Rattle.plain_edits.specs.declared.style.Span.{Span}
use Rattle.stale_spans.specs.declared.fault.Misplaced.TheVariants.{Start, Len, Spans}
use Rattle.stale_spans.specs.Places.{meant_range, misplaced}

abbrev pub wide : List ℕ
wide = 97 ∷ 233 ∷ 98 ∷ []

abbrev pub span : ℕ → ℕ → ℕ → Span
span start end style = record { start = start; end = end; style = style }

-- what is no place, the first
pub record MisplacedSpans : Type 0 where
  pub start : misplaced wide 2 2 [] ≡ Some Start
  pub start_first : misplaced wide 2 1 (span 0 2 2 ∷ []) ≡ Some Start
  pub end : misplaced wide 1 1 [] ≡ Some Len
  pub past_end : misplaced wide 1 4 [] ≡ Some Len
  pub of_span : misplaced wide 1 3 (span 0 2 2 ∷ span 0 1 2 ∷ []) ≡ Some Spans
  pub none : misplaced wide 1 3 (span 0 2 2 ∷ span 2 3 3 ∷ []) ≡ None
  pub empty : misplaced wide 4 0 (span 0 0 2 ∷ []) ≡ None

-- what is meant in characters
pub record MeantSpans : Type 0 where
  pub range : (meant_range wide 1 3 []).range ≡ record { start = 1; end = 3 }
  pub spans : (meant_range wide 1 3 (span 0 2 2 ∷ span 2 3 3 ∷ [])).spans ≡ span 1 2 2 ∷ span 2 3 3 ∷ []
