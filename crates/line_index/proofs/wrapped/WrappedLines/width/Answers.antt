use Rattle.line_index.proofs.wrapped.WrappedLines.width.Goals as goal

pub returns-clause-wraps : goal.returns-clause-wraps
returns-clause-wraps c = c.self.invariant.wraps
