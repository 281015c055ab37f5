use Rattle.movement_core.proofs.LawLemmas.{StandsAtPlaces-moved}
use Rattle.movement_core.proofs.laws.motions_keep_places.Goals as goal

pub returns : goal.returns
returns c = StandsAtPlaces-moved
