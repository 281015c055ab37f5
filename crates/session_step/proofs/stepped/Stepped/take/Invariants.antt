use Rattle.session_step.proofs.OpenLemmas.{IsTakingTo}
use Rattle.session_step.proofs.stepped.Stepped.take.Given as goal

abbrev pub invariant-loop-kept : goal.invariant-loop-kept
invariant-loop-kept l = IsTakingTo l.told l.initial.self l.held l.kept-index l.self
