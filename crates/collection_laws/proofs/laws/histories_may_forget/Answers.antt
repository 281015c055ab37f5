use Rattle.collection_laws.proofs.GuardLemmas.{MayForget-loaded, MayForget-after_step}
use Rattle.collection_laws.proofs.laws.histories_may_forget.Goals as goal

pub returns-clause-loaded : goal.returns-clause-loaded
returns-clause-loaded c = MayForget-loaded

pub returns-clause-steps : goal.returns-clause-steps
returns-clause-steps c = MayForget-after_step
