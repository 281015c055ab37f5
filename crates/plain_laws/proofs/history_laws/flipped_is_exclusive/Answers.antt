use Rattle.plain_text.proofs.callers.NumberLemmas.{has-flipped}
use Rattle.plain_laws.proofs.history_laws.flipped_is_exclusive.Goals as goal

pub returns : goal.returns
returns c = has-flipped
