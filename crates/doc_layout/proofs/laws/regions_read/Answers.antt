use Rattle.doc_layout.proofs.ReadLemmas.{regions-read}
use Rattle.doc_layout.proofs.laws.regions_read.Goals as goal

pub returns : goal.returns
returns c = regions-read
