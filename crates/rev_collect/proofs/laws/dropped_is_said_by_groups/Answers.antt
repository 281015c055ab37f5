use Rattle.rev_collect.proofs.DroppedLemmas.{dropped_said}
use Rattle.rev_collect.proofs.laws.dropped_is_said_by_groups.Goals as goal

pub returns : goal.returns
returns c = λ history now groups free edits loaded are. dropped_said history now groups loaded are free edits
