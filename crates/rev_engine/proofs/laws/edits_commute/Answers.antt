use Rattle.rev_engine.proofs.CommuteLemmas.{edits_commute}
use Rattle.rev_engine.proofs.laws.edits_commute.Goals as goal

pub returns : goal.returns
returns c = edits_commute
