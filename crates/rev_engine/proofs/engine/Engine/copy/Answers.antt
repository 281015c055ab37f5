use Rattle.rev_engine.proofs.engine.Engine.copy.Goals as goal

pub invariant_of-result : goal.invariant_of-result
invariant_of-result c = rw (c.in_ok-union.ensures, c.in_ok-text.ensures, c.in_ok-revs.ensures) c.self.invariant
