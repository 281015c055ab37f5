use Rattle.collection_laws.proofs.ShownLemmas.{visible_at-left, text_at-left}
use Rattle.collection_laws.proofs.laws.texts_stay.Goals as goal

pub returns-clause-characters : goal.returns-clause-characters
returns-clause-characters c =
    λ history rev forgets is_kept. visible_at-left history forgets rev is_kept.reached is_kept.known

pub returns-clause-texts : goal.returns-clause-texts
returns-clause-texts c =
    λ history rev forgets is_kept. text_at-left history forgets rev is_kept.reached is_kept.known
