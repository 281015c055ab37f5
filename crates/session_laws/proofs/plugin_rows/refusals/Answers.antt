use Rattle.session_laws.proofs.PluginRowLemmas.{refusals}
use Rattle.session_laws.proofs.plugin_rows.refusals.Goals as goal

pub returns : goal.returns
returns c = refusals
