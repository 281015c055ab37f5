use Rattle.shipped_plugins.proofs.LawLemmas.{edits_fit}
use Rattle.shipped_plugins.proofs.laws.edits_fit.Goals as goal

pub returns : goal.returns
returns c = edits_fit
