-- Worked rows: small lines, with what the definitions are to give.
use Rattle.std.specs.Prelude.{◌≡◌, ℕ, pos, negsuc, ℤ, [], ◌∷◌}
use Rattle.plain_edits.specs.declared.style.Span.{Span}
use Rattle.plain_screen.specs.declared.screen.Triple.{Triple}
use Rattle.span_runs.specs.Triples.{triples_of}

abbrev pub span : ℕ → ℕ → ℕ → Span
span start end style = record { start = start; end = end; style = style }

abbrev pub triple : ℤ → ℕ → ℕ → Triple
triple start len id = record { start = start; len = len; id = id }

-- `aé中b` with two neighbouring spans; and `abc` with a region and a match in it, whichever comes first
pub record TriplesAreInBytes : Type 0 where
  pub bytes : triples_of (97 ∷ 233 ∷ 20013 ∷ 98 ∷ []) (span 1 2 2 ∷ span 2 3 3 ∷ []) ≡ triple (pos 1) 2 2 ∷ triple (pos 0) 3 3 ∷ []
  pub back : triples_of (97 ∷ 98 ∷ 99 ∷ []) (span 0 3 0 ∷ span 1 2 1 ∷ []) ≡ triple (pos 0) 3 0 ∷ triple (negsuc 1) 1 1 ∷ []
  pub sorted : triples_of (97 ∷ 98 ∷ 99 ∷ []) (span 1 2 1 ∷ span 0 3 0 ∷ []) ≡ triple (pos 0) 3 0 ∷ triple (negsuc 1) 1 1 ∷ []
