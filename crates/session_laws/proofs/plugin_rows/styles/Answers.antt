use Rattle.session_laws.proofs.PluginRowLemmas.{styled}
use Rattle.session_laws.proofs.plugin_rows.styles.Goals as goal

pub returns : goal.returns
returns c = styled
