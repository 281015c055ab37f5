use Rattle.undo_groups.proofs.LawLemmas.{redo_takes_undo_back as law}
use Rattle.undo_groups.proofs.laws.redo_takes_undo_back.Goals as goal

pub returns : goal.returns
returns c = law
