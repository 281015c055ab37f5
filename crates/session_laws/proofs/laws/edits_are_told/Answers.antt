use Rattle.session_laws.proofs.NewsLemmas.{edits_are_told}
use Rattle.session_laws.proofs.laws.edits_are_told.Goals as goal

pub returns : goal.returns
returns c = edits_are_told
