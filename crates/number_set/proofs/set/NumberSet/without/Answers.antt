use Rattle.plain_text.proofs.callers.NumberLemmas.{without-missed}
use Rattle.number_set.proofs.set.NumberSet.without.Goals as goal

pub returns-in-Err : goal.returns-in-Err
returns-in-Err c =
    rw (← without-missed c.args.self.now c.in-Err.ensures.rising c.args.number _ c.in-Err.ensures.place) c.copy.ensures
