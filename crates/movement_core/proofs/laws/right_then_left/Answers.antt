use Rattle.movement_core.proofs.LawLemmas.{left_of-right_of}
use Rattle.movement_core.proofs.laws.right_then_left.Goals as goal

pub returns : goal.returns
returns c = left_of-right_of
