use Rattle.session_laws.proofs.PluginRowLemmas.{stale_edit}
use Rattle.session_laws.proofs.plugin_rows.stale_edit.Goals as goal

pub returns : goal.returns
returns c = stale_edit
