use Rattle.plain_text.proofs.callers.NumberLemmas.{with-found}
use Rattle.number_set.proofs.set.NumberSet.with.Goals as goal

pub returns-in-Ok-clause-made : goal.returns-in-Ok-clause-made
returns-in-Ok-clause-made c =
    rw (← with-found c.args.self.now c.in-Ok.ensures.rising c.args.number _ c.in-Ok.ensures.place) c.copy.ensures
