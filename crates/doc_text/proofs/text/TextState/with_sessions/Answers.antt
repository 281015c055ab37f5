use Rattle.doc_text.proofs.text.TextState.with_sessions.Goals as goal

pub invariant_of-result : goal.invariant_of-result
invariant_of-result c = rw (c.in_ok-try_clone.ensures, c.in_ok-copy.ensures) c.self.invariant
