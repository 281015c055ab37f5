use Rattle.session_laws.proofs.PluginLemmas.{styles_are_told_once}
use Rattle.session_laws.proofs.laws.styles_are_told_once.Goals as goal

pub returns : goal.returns
returns c = styles_are_told_once
