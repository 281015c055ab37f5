-- What is left of a text that is read as far as a byte.
use Rattle.std.proofs.Common.{◌≡◌, ℕ, Bool, true, false, List, [], ◌∷◌, ◌++◌, Option, None, Some, refl, ap, sym, ◌∙◌, append_assoc}
use Rattle.std.specs.Prelude.{◌==◌, if◌then◌else◌, option_map, option_and_then}
use Rattle.case_lines.specs.Quoted.{meant_by, unquoted, unquoted_after}

-- the text so far goes before what the rest stands for, where the flag says whether a backslash stands before it
pub record Left (written text : List ℕ) (is_marked : Bool) (rest : List ℕ) : Type 0 where
  pub all : option_map (λ more. text ++ more) (unquoted_after is_marked rest) ≡ unquoted written

pub nothing_read : (written text : List ℕ) → text ≡ [] → option_map (λ more. text ++ more) (unquoted_after false written) ≡ unquoted written
nothing_read written text none = ap (λ t. option_map (λ more. t ++ more) (unquoted written)) none ∙ same (unquoted written)
  where
    same : (all : Option (List ℕ)) → option_map (λ more. [] ++ more) all ≡ all
    same None = refl
    same (Some all) = refl

one_more : (text : List ℕ) (c : ℕ) (rest : Option (List ℕ)) →
    option_map (λ more. (text ++ c ∷ []) ++ more) rest ≡ option_map (λ more. text ++ more) (option_map (λ more. c ∷ more) rest)
one_more text c None = refl
one_more text c (Some more) = ap Some (append_assoc text (c ∷ []) more)

-- a byte that is meant by its mark
pub meant_step : (written text : List ℕ) (b c : ℕ) (rest : List ℕ) → meant_by b ≡ Some c → Left written text true (b ∷ rest) →
    Left written (text ++ c ∷ []) false rest
meant_step written text b c rest meant left = record {
  all = one_more text c (unquoted_after false rest) ∙
      ap (λ m. option_map (λ more. text ++ more) (option_and_then (λ c. option_map (λ t. c ∷ t) (unquoted_after false rest)) m)) (sym meant) ∙
      left.all;
}

-- a backslash
pub mark_step : (written text : List ℕ) (b : ℕ) (rest : List ℕ) → (b == 92) ≡ true → Left written text false (b ∷ rest) →
    Left written text true rest
mark_step written text b rest is left = record {
  all = ap (λ test. option_map (λ more. text ++ more)
      (if test then unquoted_after true rest else option_map (λ t. b ∷ t) (unquoted_after false rest))) (sym is) ∙ left.all;
}

-- a byte that stands for itself
pub itself_step : (written text : List ℕ) (b : ℕ) (rest : List ℕ) → (b == 92) ≡ false → Left written text false (b ∷ rest) →
    Left written (text ++ b ∷ []) false rest
itself_step written text b rest is left = record {
  all = one_more text b (unquoted_after false rest) ∙
      ap (λ test. option_map (λ more. text ++ more)
      (if test then unquoted_after true rest else option_map (λ t. b ∷ t) (unquoted_after false rest))) (sym is) ∙ left.all;
}
