use Rattle.std.proofs.Common.{subst, sym}
use Rattle.rev_engine.specs.Engine.{StandsFor}
use Rattle.rev_engine.proofs.StandLemmas.{head-text}
use Rattle.rev_engine.proofs.engine.Engine.head_rope.Goals as goal

pub returns-clause-text : goal.returns-clause-text
returns-clause-text c = λ history stands.
    head-text _ history (subst (λ s. StandsFor s history) (sym c.self.view_is) stands) _ c.self.invariant.shown
