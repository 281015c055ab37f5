use Rattle.rev_list.proofs.list.RevList.first_edit.Goals as goal

pub returns : goal.returns
returns c = rw (c.get.ensures, ← c.self.view_is) (c.self.invariant.first_edits c.args.group)
