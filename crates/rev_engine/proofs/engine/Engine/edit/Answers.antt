use Rattle.collection_laws.specs.Left.{left_of}
use Rattle.rev_engine.proofs.DoneLemmas.{IsChange-asked, StandsFor-asked, accepted-asked}
use Rattle.rev_engine.proofs.StandLemmas.{IsHistoryOf-stands}
use Rattle.rev_engine.proofs.engine.Engine.edit.Goals as goal

pub returns-clause-stands : goal.returns-clause-stands
returns-clause-stands c = λ history stands.
    StandsFor-asked c.args.self.now history c.args.edit.now c.in_ok-fitting.fitting stands c.in_ok-fitting.ensures.fits c.in_ok-fitting.ensures.answers _
    c.requires c.in_ok-next.ensures.next

pub returns-clause-change : goal.returns-clause-change
returns-clause-change c = λ history stands.
    IsChange-asked c.args.self.now history c.args.edit.now c.in_ok-fitting.fitting stands c.in_ok-fitting.ensures.fits c.in_ok-fitting.ensures.answers _
    c.requires (c.in_ok-next.ensures.change (left_of history) (IsHistoryOf-stands c.args.self.now history stands))

pub returns-clause-accepted : goal.returns-clause-accepted
returns-clause-accepted c = λ history stands.
    accepted-asked c.args.self.now history c.args.edit.now c.in_ok-fitting.fitting stands c.in_ok-fitting.ensures.fits c.in_ok-fitting.ensures.answers
