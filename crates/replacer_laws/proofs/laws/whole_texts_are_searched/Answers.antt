use Rattle.replacer_laws.proofs.OnceLemmas.{whole_searched}
use Rattle.replacer_laws.proofs.laws.whole_texts_are_searched.Goals as goal

pub returns : goal.returns
returns c = whole_searched
