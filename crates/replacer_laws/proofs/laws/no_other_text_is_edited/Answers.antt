use Rattle.replacer_laws.proofs.OnceLemmas.{no_other}
use Rattle.replacer_laws.proofs.laws.no_other_text_is_edited.Goals as goal

pub returns : goal.returns
returns c = no_other
