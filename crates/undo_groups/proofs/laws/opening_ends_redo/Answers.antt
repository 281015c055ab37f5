use Rattle.undo_groups.proofs.LawLemmas.{opening_ends_redo as law}
use Rattle.undo_groups.proofs.laws.opening_ends_redo.Goals as goal

pub returns : goal.returns
returns c = law
