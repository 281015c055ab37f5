use Rattle.plain_text.proofs.callers.TextLemmas.{gap_at_iff}
use Rattle.plain_laws.proofs.laws.gaps_have_places.Goals as goal

pub returns : goal.returns
returns c = gap_at_iff
