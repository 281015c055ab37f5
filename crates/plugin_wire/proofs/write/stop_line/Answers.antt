use Rattle.std.proofs.lemmas.Result.{IfOk-weaker}
use Rattle.plugin_wire.specs.Told.{stopped}
use Rattle.plugin_wire.proofs.Notices.{IsNoticeOf-params}
use Rattle.plugin_wire.proofs.write.stop_line.Goals as goal

pub returns : goal.returns
returns c = IfOk-weaker c.note.result _ _ (λ text is. IsNoticeOf-params stopped _ _ c.stop_value-params.ensures tt is) c.note.ensures
