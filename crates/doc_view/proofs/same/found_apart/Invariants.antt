use Rattle.std.proofs.Common.{◌-◌, length}
use Rattle.match_index.specs.Found.{runs_in}
use Rattle.doc_view.proofs.AnewLemmas.{AreBothFrom}
use Rattle.doc_view.proofs.same.found_apart.Given as goal

abbrev pub invariant-loop-found : goal.invariant-loop-found
invariant-loop-found l = AreBothFrom l.at (runs_in l.matches) (runs_in l.others)

abbrev pub decreases-loop-found : goal.decreases-loop-found
decreases-loop-found l = length l.matches.text - l.at
