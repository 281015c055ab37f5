use Rattle.style_numbers.proofs.LawLemmas.{styles_have_their_ids}
use Rattle.style_numbers.proofs.laws.styles_have_their_ids.Goals as goal

pub returns : goal.returns
returns c = styles_have_their_ids
