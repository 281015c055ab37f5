use Rattle.screen_flags.proofs.LawLemmas.{flags_count}
use Rattle.screen_flags.proofs.laws.flags_count.Goals as goal

pub returns : goal.returns
returns c = flags_count
