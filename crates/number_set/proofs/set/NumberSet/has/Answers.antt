use Rattle.std.proofs.Common.{◌∙◌}
use Rattle.plain_text.proofs.callers.NumberLemmas.{has-searched}
use Rattle.number_set.proofs.set.NumberSet.has.Goals as goal

pub returns-clause-has : goal.returns-clause-has
returns-clause-has c = c.is_ok.ensures.value ∙ has-searched _ c.search.ensures.rising c.args.number _ c.search.ensures.place
