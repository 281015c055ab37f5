use Rattle.std.proofs.Common.{ℕ, Some, ap₂, ◌∙◌}
use Rattle.movement_core.specs.Inner.{placed_region}
use Rattle.movement_core.specs.Lines.{below}
use Rattle.movement_core.proofs.moves.down.Goals as goal

pub returns : goal.returns
returns g c =
    let text = g.T.TextView.text_of c.args.view.now in
    let pieces = g.T.TextView.pieces_of c.args.view.now in
    c.placed.ensures ∙
    ap₂ (λ (caret goal : ℕ). placed_region c.args.region c.args.extend caret (Some goal))
    (c.in_ok-caret.ensures ∙ ap₂ (λ (goal from : ℕ). below c.args.tab text pieces goal from) c.in_ok-goal.ensures c.lower.ensures) c.in_ok-goal.ensures
