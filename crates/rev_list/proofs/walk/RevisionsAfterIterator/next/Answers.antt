use Rattle.std.proofs.Common.{arith, sym, ◌∙◌}
use Rattle.rev_list.proofs.FlagLemmas.{steps_of-drop}
use Rattle.rev_list.proofs.walk.RevisionsAfterIterator.next.Goals as goal

pub returns-clause-steps : goal.returns-clause-steps
returns-clause-steps c =
    sym c.self.view_is ∙ steps_of-drop c.self.inside.records.now c.self.inside.at _ (omega (arith, c.self.invariant, c.len.ensures)) c.get-next.ensures
