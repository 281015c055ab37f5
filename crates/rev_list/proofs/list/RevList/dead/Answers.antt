use Rattle.std.proofs.Common.{◌∙◌}
use Rattle.rev_list.proofs.list.RevList.dead.Goals as goal

pub returns : goal.returns
returns c = rw (← c.self.view_is) (c.deref.ensures ∙ c.self.invariant.dead)
