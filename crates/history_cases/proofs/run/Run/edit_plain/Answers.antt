use Rattle.history_cases.proofs.run.Run.edit_plain.Goals as goal

pub returns : goal.returns
returns c = rw (← c.self.view_is) c.edited.ensures
