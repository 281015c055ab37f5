use Rattle.plugin_wire.proofs.Notices.{answers_are_no_notices}
use Rattle.plugin_wire.proofs.laws.answers_are_no_notices.Goals as goal

pub returns : goal.returns
returns c = answers_are_no_notices
