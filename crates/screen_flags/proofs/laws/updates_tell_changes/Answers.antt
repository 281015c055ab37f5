use Rattle.screen_flags.proofs.ToldLemmas.{updates_tell_changes}
use Rattle.screen_flags.proofs.laws.updates_tell_changes.Goals as goal

pub returns : goal.returns
returns c = updates_tell_changes
