use Rattle.plain_edits.proofs.callers.WellFormedLemmas.{IsWellFormed-loaded, IsWellFormed-after_step}
use Rattle.plain_laws.proofs.history_laws.histories_stay_well_formed.Goals as goal

pub returns : goal.returns
returns c = record { at_loading = IsWellFormed-loaded; by_steps = IsWellFormed-after_step }
