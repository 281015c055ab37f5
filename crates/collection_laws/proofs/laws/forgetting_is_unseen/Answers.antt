use Rattle.collection_laws.proofs.ForgetfulLemmas.{forgetful_steps-loaded, text_at-forgetful_steps}
use Rattle.collection_laws.proofs.laws.forgetting_is_unseen.Goals as goal

pub returns-clause-holds : goal.returns-clause-holds
returns-clause-holds c = forgetful_steps-loaded

pub returns-clause-texts : goal.returns-clause-texts
returns-clause-texts c =
    λ text steps rev may is_kept. text_at-forgetful_steps text steps rev may is_kept.reached is_kept.known
