use Rattle.doc_text.proofs.LaterLemmas.{HasNoneLeft-later}
use Rattle.doc_text.proofs.OnceLemmas.{nothing_after}
use Rattle.doc_text.proofs.laws.revisions_give_nothing.Goals as goal

pub returns : goal.returns
returns c = λ before after more are on none. nothing_after after (HasNoneLeft-later before after more are on none)
