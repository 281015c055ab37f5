use Rattle.doc_layout.proofs.TellLemmas.{layouts-tell}
use Rattle.doc_layout.proofs.laws.layouts_tell.Goals as goal

pub returns : goal.returns
returns c = layouts-tell
