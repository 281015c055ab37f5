use Rattle.replacer_laws.proofs.TrueLemmas.{edits_true}
use Rattle.replacer_laws.proofs.laws.edits_are_true.Goals as goal

pub returns : goal.returns
returns c = edits_true
