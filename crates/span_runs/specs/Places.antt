-- Gaps of a line in rising order.
use Rattle.std.specs.Prelude.{ℕ, ◌≤◌, List, [], ◌∷◌}
use Rattle.std.specs.List.{AllByRecursion, Contains}
use Rattle.plain_edits.specs.declared.style.Span.{Span}

-- gaps rise from one on, up to a last one
abbrev pub RiseUpTo : ℕ → ℕ → List ℕ → Type 0
RiseUpTo from last [] = Unit {0}
RiseUpTo from last (gap ∷ gaps) = (from ≤ gap) × (gap ≤ last) × RiseUpTo gap last gaps

-- the gaps at which spans start and end
abbrev pub ends_of : List Span → List ℕ
ends_of [] = []
ends_of (span ∷ spans) = span.start ∷ span.end ∷ ends_of spans

-- each of these spans starts and ends at one of the gaps
abbrev pub HasEnds : List ℕ → List Span → Type 0
HasEnds gaps spans = AllByRecursion (λ span. Contains gaps span.start × Contains gaps span.end) spans
