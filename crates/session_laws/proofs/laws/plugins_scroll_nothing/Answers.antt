use Rattle.session_laws.proofs.PluginLemmas.{plugins_scroll_nothing}
use Rattle.session_laws.proofs.laws.plugins_scroll_nothing.Goals as goal

pub returns : goal.returns
returns c = plugins_scroll_nothing
