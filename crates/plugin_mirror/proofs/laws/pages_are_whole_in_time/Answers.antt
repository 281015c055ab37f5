use Rattle.plugin_mirror.proofs.TimeLemmas.{whole_in_time}
use Rattle.plugin_mirror.proofs.laws.pages_are_whole_in_time.Goals as goal

pub returns : goal.returns
returns c = whole_in_time
