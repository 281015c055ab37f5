use Rattle.rev_rebase.proofs.FlagLemmas.{insertion_place-base, insertion_place-next}
use Rattle.rev_rebase.proofs.UntilLemmas.{until-head}
use Rattle.rev_rebase.proofs.laws.places_step.Goals as goal

pub returns : goal.returns
returns c = record { base = insertion_place-base; step = insertion_place-next; last = until-head }
