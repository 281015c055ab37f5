use denote.Param.Send.{sendable}
use Rattle.session_sent.proofs.ForCallers.{Core-send}
use Rattle.session_sent.proofs.may_be_sent.Goals as goal

pub is_sent-requires-send-T : goal.is_sent-requires-send-T
is_sent-requires-send-T g c κs within = search (sendable, Core-send)
