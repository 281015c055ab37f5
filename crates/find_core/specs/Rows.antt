-- Worked rows: small texts with the matches that the definitions are to give.
use Rattle.std.specs.Prelude.{◌≡◌, [], ◌∷◌, true, false}
use Rattle.find_core.specs.Matches.{matches_of}

-- `aa` in `aaaa`; `AA` in `baA` where case does not count, and where it does
pub record MatchesOfLetters : Type 0 where
  pub twice : matches_of (97 ∷ 97 ∷ 97 ∷ 97 ∷ []) (97 ∷ 97 ∷ []) false ≡ (record { start = 0; end = 2 }) ∷ (record { start = 2; end = 4 }) ∷ []
  pub folded : matches_of (98 ∷ 97 ∷ 65 ∷ []) (65 ∷ 65 ∷ []) true ≡ (record { start = 1; end = 3 }) ∷ []
  pub exact : matches_of (98 ∷ 97 ∷ 65 ∷ []) (65 ∷ 65 ∷ []) false ≡ []
