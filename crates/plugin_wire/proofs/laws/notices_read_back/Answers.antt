use Rattle.plugin_wire.proofs.Notices.{notices_read_back}
use Rattle.plugin_wire.proofs.laws.notices_read_back.Goals as goal

pub returns : goal.returns
returns c = notices_read_back
