use Rattle.view_update.proofs.parts.put_op.Goals as goal

pub returns-in-Skip-clause-added : goal.returns-in-Skip-clause-added
returns-in-Skip-clause-added c = rw c.in-Skip.is c.put_plain.ensures.added

pub returns-in-Invalidate-clause-added : goal.returns-in-Invalidate-clause-added
returns-in-Invalidate-clause-added c = rw c.in-Invalidate.is c.put_plain-in-Invalidate.ensures.added
