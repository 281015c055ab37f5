use Rattle.rev_collect.proofs.LeftLemmas.{left_said}
use Rattle.rev_collect.proofs.laws.left_is_said_by_groups.Goals as goal

pub returns : goal.returns
returns c = λ history groups at_head sound nothing are. left_said history groups at_head sound nothing are
