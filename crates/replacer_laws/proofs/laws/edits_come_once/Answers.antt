use Rattle.replacer_laws.proofs.OnceLemmas.{edits_once}
use Rattle.replacer_laws.proofs.laws.edits_come_once.Goals as goal

pub returns : goal.returns
returns c = edits_once
