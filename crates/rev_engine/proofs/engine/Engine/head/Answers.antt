use Rattle.std.proofs.Common.{◌∙◌, ap}
use Rattle.plain_edits.specs.History.{head}
use Rattle.rev_engine.specs.State.{State}
use Rattle.rev_engine.proofs.StandLemmas.{head-stands}
use Rattle.rev_engine.proofs.engine.Engine.head.Goals as goal

pub returns-clause-head : goal.returns-clause-head
returns-clause-head c = λ history stands.
    c.head.ensures ∙ ap (λ (s : State). head s.revisions) c.self.view_is ∙ head-stands c.args.self.now history stands
