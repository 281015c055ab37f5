use Rattle.doc_layout.proofs.ReadLemmas.{lines-read}
use Rattle.doc_layout.proofs.laws.lines_read.Goals as goal

pub returns : goal.returns
returns c = lines-read
