use Rattle.session_laws.proofs.RowLemmas.{plugin_alert}
use Rattle.session_laws.proofs.rows.plugin_alert.Goals as goal

pub returns : goal.returns
returns c = plugin_alert
