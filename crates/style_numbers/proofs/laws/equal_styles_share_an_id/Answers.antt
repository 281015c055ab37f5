use Rattle.style_numbers.proofs.LawLemmas.{equal_styles_share_an_id}
use Rattle.style_numbers.proofs.laws.equal_styles_share_an_id.Goals as goal

pub returns : goal.returns
returns c = equal_styles_share_an_id
