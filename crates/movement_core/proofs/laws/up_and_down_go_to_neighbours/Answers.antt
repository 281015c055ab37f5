use Rattle.movement_core.proofs.LawLemmas.{IsInLine-above, IsInLine-below}
use Rattle.movement_core.proofs.laws.up_and_down_go_to_neighbours.Goals as goal

pub returns : goal.returns
returns c = record { up = IsInLine-above; down = IsInLine-below }
