use Rattle.replacer_laws.proofs.OnceLemmas.{each_edited}
use Rattle.replacer_laws.proofs.laws.each_text_is_edited.Goals as goal

pub returns : goal.returns
returns c = each_edited
