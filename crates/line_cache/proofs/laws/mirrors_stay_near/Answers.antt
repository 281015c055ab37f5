use Rattle.line_cache.proofs.NearLemmas.{near-few, shown-near}
use Rattle.line_cache.proofs.laws.mirrors_stay_near.Goals as goal

pub returns : goal.returns
returns c = record { near = shown-near; few = near-few }
