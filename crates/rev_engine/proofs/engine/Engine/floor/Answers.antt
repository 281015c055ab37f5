use Rattle.std.proofs.Common.{◌≤◌, ◌∙◌, ap, subst}
use Rattle.plain_edits.specs.History.{head}
use Rattle.rev_engine.specs.State.{State}
use Rattle.rev_engine.proofs.StandLemmas.{floor-stands}
use Rattle.rev_engine.proofs.engine.Engine.floor.Goals as goal

pub returns-clause-floor : goal.returns-clause-floor
returns-clause-floor c = λ history stands.
    c.floor.ensures.floor ∙ ap (λ (s : State). s.revisions.floor) c.self.view_is ∙ floor-stands c.args.self.now history stands

pub returns-clause-known : goal.returns-clause-known
returns-clause-known c = subst (λ (s : State). s.revisions.floor ≤ head s.revisions) c.self.view_is c.self.invariant.floor
