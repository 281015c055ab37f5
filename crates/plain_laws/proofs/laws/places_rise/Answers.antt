use Rattle.plain_edits.proofs.callers.PlaceLemmas.{insertion_place-lt}
use Rattle.plain_laws.proofs.laws.places_rise.Goals as goal

pub returns : goal.returns
returns c = insertion_place-lt
