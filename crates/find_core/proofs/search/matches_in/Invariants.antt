use Rattle.find_core.proofs.ByteLemmas.{IsSoFar}
use Rattle.find_core.proofs.search.matches_in.Given as goal

abbrev pub invariant-loop-at : goal.invariant-loop-at
invariant-loop-at l = IsSoFar l.text l.chars l.place l.gap l.found l.at-iterator
