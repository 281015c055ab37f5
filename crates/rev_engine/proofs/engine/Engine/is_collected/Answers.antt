use Rattle.std.proofs.Common.{List, ℕ, ap, ◌∙◌}
use Rattle.plain_text.specs.Numbers.{has}
use Rattle.rev_engine.specs.State.{State}
use Rattle.rev_engine.proofs.StandLemmas.{collected-stands}
use Rattle.rev_engine.proofs.engine.Engine.is_collected.Goals as goal

pub returns-clause-collected : goal.returns-clause-collected
returns-clause-collected c = λ history stands.
    c.is_collected.ensures.collected ∙ ap (λ (s : State). has s.revisions.collected c.args.group) c.self.view_is ∙
    ap (λ (groups : List ℕ). has groups c.args.group) (collected-stands c.args.self.now history stands)
