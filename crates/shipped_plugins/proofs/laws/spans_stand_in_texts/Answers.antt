use Rattle.shipped_plugins.proofs.PlaceLemmas.{spans_stand}
use Rattle.shipped_plugins.proofs.laws.spans_stand_in_texts.Goals as goal

pub returns : goal.returns
returns c = spans_stand
