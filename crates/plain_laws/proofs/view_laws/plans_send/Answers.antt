use Rattle.std.proofs.Common.{◌≡◌, ℕ, zero, suc, Bool, List, [], ◌∷◌, Option, refl}
use Rattle.plain_screen.specs.Screen.{Screen}
use Rattle.plain_screen.specs.Plan.{with_standings, partner_at}
use Rattle.plain_screen.specs.Touched.{valid_partner, valid_partners}
use Rattle.plain_screen.proofs.callers.PlanLemmas.{told_by-plan, to_tell-due}
use Rattle.plain_laws.proofs.view_laws.plans_send.Goals as goal

partner_at-valid : (screen : Screen) (partners : List (Option (ℕ × Bool))) (at : ℕ) →
    partner_at (valid_partners screen partners) at ≡ valid_partner screen (partner_at partners at)
partner_at-valid screen [] at = refl
partner_at-valid screen (partner ∷ partners) zero = refl
partner_at-valid screen (partner ∷ partners) (suc at) = partner_at-valid screen partners at

pub returns : goal.returns
returns c = record {
  told = λ window request lines partners. told_by-plan 0 0 (with_standings window request 0 partners lines);
  due = λ window request lines partners. to_tell-due window request partners lines;
  valid = partner_at-valid;
}
