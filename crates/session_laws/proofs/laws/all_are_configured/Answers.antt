use Rattle.session_laws.proofs.ConfigLemmas.{all_are_configured}
use Rattle.session_laws.proofs.laws.all_are_configured.Goals as goal

pub returns : goal.returns
returns c = all_are_configured
