use Rattle.std.proofs.Common.{rules}
use Rattle.rev_engine.proofs.SpentLemmas.{length-units}
use Rattle.rev_engine.proofs.engine.added_len.Goals as goal

pub returns-clause-total : goal.returns-clause-total
returns-clause-total c = search (rules, length-units)
