use Rattle.shipped_plugins.proofs.MarkLemmas.{MarkedSoFar}
use Rattle.shipped_plugins.proofs.marks.spans_of.Given as goal

abbrev pub invariant-loop-at : goal.invariant-loop-at
invariant-loop-at l = MarkedSoFar l.chunk l.spans l.at-iterator
