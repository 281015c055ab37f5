use Rattle.undo_groups.proofs.LawLemmas.{undo_takes_redo_back as law}
use Rattle.undo_groups.proofs.laws.undo_takes_redo_back.Goals as goal

pub returns : goal.returns
returns c = law
