use Rattle.collection_laws.specs.Left.{left_of}
use Rattle.rev_engine.proofs.DoneLemmas.{IsChange-said, StandsFor-said, accepted-said}
use Rattle.rev_engine.proofs.StandLemmas.{IsHistoryOf-stands}
use Rattle.rev_engine.proofs.engine.Engine.edit_head.Goals as goal

pub returns-clause-stands : goal.returns-clause-stands
returns-clause-stands c = λ history asked stands said.
    StandsFor-said c.args.self.now history c.args.edit asked stands said c.in_ok-fitting.fitting c.in_ok-fitting.ensures.edit c.in_ok-fitting.ensures.fits _ _
    c.head-head.ensures.revisions c.requires.may c.in_ok-next.ensures.next

pub returns-clause-change : goal.returns-clause-change
returns-clause-change c = λ history asked stands said.
    IsChange-said c.args.self.now history c.args.edit asked stands said c.in_ok-fitting.fitting c.in_ok-fitting.ensures.edit c.in_ok-fitting.ensures.fits _ _
    c.head-head.ensures.revisions c.requires.may (c.in_ok-next.ensures.change (left_of history) (IsHistoryOf-stands c.args.self.now history stands))

pub returns-clause-accepted : goal.returns-clause-accepted
returns-clause-accepted c = λ history asked stands said.
    accepted-said c.args.self.now history c.args.edit asked stands said c.in_ok-fitting.fitting c.in_ok-fitting.ensures.edit c.in_ok-fitting.ensures.fits
