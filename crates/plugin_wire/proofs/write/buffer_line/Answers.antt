use Rattle.std.proofs.Common.{arith}
use Rattle.std.proofs.lemmas.Result.{IfOk-weaker}
use Rattle.plugin_wire.specs.Told.{opened}
use Rattle.plugin_wire.proofs.Plain.{IsWritable-told_params}
use Rattle.plugin_wire.proofs.Notices.{IsNoticeOf-params}
use Rattle.plugin_wire.proofs.write.buffer_line.Goals as goal

pub note-requires-clause-no_float : goal.note-requires-clause-no_float
note-requires-clause-no_float c = rw c.in_ok-params.ensures.value (IsWritable-told_params (opened c.args.view.now c.args.len) c.in_ok-params.ensures.fair).whole

pub note-requires-clause-shallow : goal.note-requires-clause-shallow
note-requires-clause-shallow c = rw c.in_ok-params.ensures.value (omega (arith, (IsWritable-told_params (opened c.args.view.now c.args.len) c.in_ok-params.ensures.fair).shallow))

pub returns : goal.returns
returns c = IfOk-weaker c.note.result _ _ (λ text is. IsNoticeOf-params (opened c.args.view.now c.args.len) _ _ c.in_ok-params.ensures.value c.in_ok-params.ensures.fair is) c.note.ensures
