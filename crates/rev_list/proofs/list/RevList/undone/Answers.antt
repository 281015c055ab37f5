use Rattle.rev_list.proofs.list.RevList.undone.Goals as goal

pub returns-clause-groups : goal.returns-clause-groups
returns-clause-groups c = rw (← c.self.view_is) c.self.invariant.undone

pub returns-clause-rising : goal.returns-clause-rising
returns-clause-rising c = c.self.invariant.rising

pub returns-clause-sets : goal.returns-clause-sets
returns-clause-sets c = rw (← c.self.view_is) c.self.invariant.sets
