-- Of partners those that are valid on a screen, by its truths.
use Rattle.std.proofs.Common.{◌≡◌, ℕ, zero, suc, Bool, true, false, List, [], ◌∷◌, Option, Some, None, refl, ap, ap₂, ◌∙◌}
use Rattle.std.specs.Prelude.{if◌then◌else◌, slice_get}
use Rattle.plain_screen.specs.declared.screen.Line.{Line}
use Rattle.plain_screen.specs.Screen.{Screen}
use Rattle.plain_screen.specs.Touched.{if_valid, valid_partner, valid_partners}
use Rattle.subset_runs.specs.Subset.{contains}
use Rattle.line_cache.specs.Mirror.{valid_lines}
use Rattle.line_cache.specs.Stays.{if_true, valid_by}

-- whether the line with an index is valid, if it is there
abbrev pub valid_at : Option (Option Line) → Bool
valid_at (Some (Some line)) = true
valid_at (Some None) = false
valid_at None = false

pub valid-at : (screen : Screen) (index : ℕ) → contains (valid_lines screen) index ≡ valid_at (slice_get screen index)
valid-at [] index = refl
valid-at (None ∷ screen) zero = refl
valid-at (Some line ∷ screen) zero = refl
valid-at (None ∷ screen) (suc index) = valid-at screen index
valid-at (Some line ∷ screen) (suc index) = valid-at screen index

partner-of : (screen : Screen) (partner : Option (ℕ × Bool)) → if_true (valid_lines screen) partner ≡ valid_partner screen partner
partner-of screen None = refl
partner-of screen (Some (old, same)) = ap (λ b. if b then Some (old, same) else None) (valid-at screen old) ∙ by (slice_get screen old)
  where
    by : (found : Option (Option Line)) → (if valid_at found then Some (old, same) else None) ≡ if_valid found (Some (old, same))
    by (Some (Some line)) = refl
    by (Some None) = refl
    by None = refl

pub partners-of : (screen : Screen) (partners : List (Option (ℕ × Bool))) → valid_by (valid_lines screen) partners ≡ valid_partners screen partners
partners-of screen [] = refl
partners-of screen (partner ∷ partners) = ap₂ (λ p ps. p ∷ ps) (partner-of screen partner) (partners-of screen partners)
