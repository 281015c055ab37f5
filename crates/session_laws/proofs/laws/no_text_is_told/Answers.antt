use Rattle.session_laws.proofs.ToldLemmas.{no_text_is_told}
use Rattle.session_laws.proofs.laws.no_text_is_told.Goals as goal

pub returns : goal.returns
returns c = no_text_is_told
