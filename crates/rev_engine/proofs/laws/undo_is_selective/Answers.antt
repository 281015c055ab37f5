use Rattle.rev_engine.proofs.SelectiveLemmas.{may_undo_more, undo_is_selective}
use Rattle.rev_engine.proofs.laws.undo_is_selective.Goals as goal

pub returns-clause-may : goal.returns-clause-may
returns-clause-may c = may_undo_more

pub returns-clause-selective : goal.returns-clause-selective
returns-clause-selective c = undo_is_selective
