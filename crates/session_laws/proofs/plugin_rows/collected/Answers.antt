use Rattle.session_laws.proofs.PluginRowLemmas.{collected}
use Rattle.session_laws.proofs.plugin_rows.collected.Goals as goal

pub returns : goal.returns
returns c = collected
