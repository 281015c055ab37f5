use Rattle.doc_layout.proofs.MovedLemmas.{line-moved}
use Rattle.doc_layout.proofs.laws.pieces_read.Goals as goal

pub returns : goal.returns
returns c = line-moved
