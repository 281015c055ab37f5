use Rattle.screen_flags.proofs.ToldLemmas.{others_tell_none}
use Rattle.screen_flags.proofs.laws.others_tell_none.Goals as goal

pub returns : goal.returns
returns c = others_tell_none
