use Rattle.session_step.proofs.EndedLemmas.{IsEndingTo}
use Rattle.session_step.proofs.opened_doc.opened_doc.Given as goal

abbrev pub invariant-loop-caller : goal.invariant-loop-caller
invariant-loop-caller l = IsEndingTo l.fn.terms l.ended l.fn.config l.fn.text l.caller-index l.doc
