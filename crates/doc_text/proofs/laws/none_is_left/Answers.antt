use Rattle.doc_text.proofs.CollectLemmas.{none-retired}
use Rattle.doc_text.proofs.laws.none_is_left.Goals as goal

pub returns : goal.returns
returns c = λ text plain stands. (stands.none_left, none-retired text plain stands)
