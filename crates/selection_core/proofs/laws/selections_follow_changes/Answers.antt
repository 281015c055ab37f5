use Rattle.selection_core.proofs.ChangeLemmas.{mapped_regions-after_step}
use Rattle.selection_core.proofs.laws.selections_follow_changes.Goals as goal

pub returns : goal.returns
returns c = λ history step units stays_left regions sound kept added. mapped_regions-after_step history step units stays_left sound kept added regions
