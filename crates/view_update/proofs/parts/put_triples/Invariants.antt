use Rattle.view_update.specs.Written.{triple_items}
use Rattle.view_update.specs.Fair.{IsFairTriple}
use Rattle.view_update.proofs.Made.{Put}
use Rattle.view_update.proofs.parts.put_triples.Given as goal

abbrev pub invariant-loop-triple : goal.invariant-loop-triple
invariant-loop-triple l = Put triple_items IsFairTriple l.triples l.triple-index l.initial.out l.out
