use Rattle.rev_collect.proofs.ChoiceLemmas.{never_rests}
use Rattle.rev_collect.proofs.rest.may_rest.Goals as goal

pub returns-in-Some : goal.returns-in-Some
returns-in-Some c = λ later. never_rests c.args.revs.now c.args.group c.in-Some.first c.args.most c.in-Some.ensures later
