use Rattle.rev_engine.proofs.CollectLemmas.{StandsFor-collected}
use Rattle.rev_engine.proofs.engine.Engine.collect.Goals as goal

pub returns-clause-stands : goal.returns-clause-stands
returns-clause-stands c = λ history stands.
    StandsFor-collected c.args.self.now c.in_ok-next.next history c.args.floor c.args.groups.now.keys stands c.requires c.in_ok-next.ensures
