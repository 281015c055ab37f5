use Rattle.std.proofs.Common.{◌≡◌, ◌-◌, ℕ, ap, subst, ◌∙◌}
use Rattle.std.specs.Prelude.{IfOk}
use Rattle.movement_core.specs.Places.{outward_left}
use Rattle.movement_core.proofs.words.word_left.Goals as goal

pub returns : goal.returns
returns g c =
    let text = g.T.TextView.text_of c.args.view.now in
    subst (λ (n : ℕ). IfOk c.outward_left.result (λ place. place ≡ outward_left text n))
    (c.saturating_sub.ensures ∙ ap (λ (n : ℕ). c.args.gap - n) c.in_ok-len.ensures) c.outward_left.ensures.value
