use Rattle.std.proofs.Common.{refl}
use Rattle.session_step.proofs.EndedLemmas.{IsEndingTo-next, IsEndingTo-takes}
use Rattle.session_step.proofs.opened_doc.opened_doc.Goals as goal

pub without_session-requires-clause-takes : goal.without_session-requires-clause-takes
without_session-requires-clause-takes c =
    IsEndingTo-takes c.args.terms c.args.ended.now c.args.config c.args.text c.loop-caller.caller-index c.loop-caller.doc c.loop-caller.invariant

pub loop-caller-preserved : goal.loop-caller-preserved
loop-caller-preserved c =
    IsEndingTo-next c.args.terms c.args.ended.now c.args.config c.args.text c.loop-caller.caller-index c.loop-caller.doc c.in_ok-doc-2.doc _ _
    c.loop-caller.invariant c.loop-caller-test.true refl c.in_ok-doc-2.ensures

pub returns-clause-takes : goal.returns-clause-takes
returns-clause-takes c =
    IsEndingTo-takes c.args.terms c.args.ended.now c.args.config c.args.text c.loop-caller.caller-index c.loop-caller.doc c.loop-caller.invariant
