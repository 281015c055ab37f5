use Rattle.line_index.proofs.index.LineIndex.locate.Goals as goal

pub returns-in-Whole-clause-some : goal.returns-in-Whole-clause-some
returns-in-Whole-clause-some c = rw (← c.self.view_is, c.in-Whole.is) c.locate.ensures.some
