use Rattle.replacer_laws.proofs.OnceLemmas.{turns_follow}
use Rattle.replacer_laws.proofs.laws.turns_follow.Goals as goal

pub returns : goal.returns
returns c = turns_follow
