use Rattle.screen_flags.proofs.LawLemmas.{flags_follow}
use Rattle.screen_flags.proofs.laws.flags_follow.Goals as goal

pub returns : goal.returns
returns c = flags_follow
