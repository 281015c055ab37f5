-- Worked rows: small lines with the ends that the definitions are to give.
use Rattle.std.specs.Prelude.{◌≡◌, [], ◌∷◌}
use Rattle.line_break.specs.Breaks.{breaks_of}

-- `aa b-cc` at width 3: after the space, after the hyphen, at the end; and what is not cut
pub record WrappedLine : Type 0 where
  pub words : breaks_of 3 4 (97 ∷ 97 ∷ 32 ∷ 98 ∷ 45 ∷ 99 ∷ 99 ∷ []) ≡ 3 ∷ 5 ∷ 7 ∷ []
  pub whole : breaks_of 0 4 (97 ∷ 97 ∷ 32 ∷ []) ≡ 3 ∷ []
  pub none : breaks_of 3 4 [] ≡ 0 ∷ []

-- CR LF and LF take no room; a CR at the end of a line without LF, or inside one, has a column
pub record LineEnd : Type 0 where
  pub both : breaks_of 5 4 (97 ∷ 98 ∷ 99 ∷ 100 ∷ 101 ∷ 13 ∷ 10 ∷ []) ≡ 7 ∷ []
  pub feed : breaks_of 5 4 (97 ∷ 98 ∷ 99 ∷ 100 ∷ 101 ∷ 10 ∷ []) ≡ 6 ∷ []
  pub return : breaks_of 5 4 (97 ∷ 98 ∷ 99 ∷ 100 ∷ 101 ∷ 13 ∷ []) ≡ 5 ∷ 6 ∷ []
  pub inside : breaks_of 4 4 (97 ∷ 98 ∷ 13 ∷ 99 ∷ 100 ∷ 10 ∷ []) ≡ 4 ∷ 6 ∷ []
  pub two : breaks_of 1 4 (13 ∷ 13 ∷ 10 ∷ []) ≡ 3 ∷ []
  pub blank : breaks_of 1 4 (13 ∷ 32 ∷ 10 ∷ []) ≡ 3 ∷ []
  pub alone : breaks_of 1 4 (13 ∷ 10 ∷ []) ≡ 2 ∷ []
