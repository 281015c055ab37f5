use Rattle.session_laws.proofs.PluginRowLemmas.{answers}
use Rattle.session_laws.proofs.plugin_rows.answers.Goals as goal

pub returns : goal.returns
returns c = answers
