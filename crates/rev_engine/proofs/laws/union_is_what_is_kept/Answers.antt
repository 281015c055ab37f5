use Rattle.rev_engine.proofs.StandLemmas.{union-kept}
use Rattle.rev_engine.proofs.laws.union_is_what_is_kept.Goals as goal

pub returns : goal.returns
returns c = λ engine history stands. union-kept engine history stands
