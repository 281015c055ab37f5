use Rattle.doc_layout.proofs.ReadLemmas.{styles-read}
use Rattle.doc_layout.proofs.laws.styles_read.Goals as goal

pub returns : goal.returns
returns c = styles-read
