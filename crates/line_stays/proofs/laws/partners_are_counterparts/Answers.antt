use Rattle.line_stays.proofs.PartnerLemmas.{partners-at}
use Rattle.line_stays.proofs.laws.partners_are_counterparts.Goals as goal

pub returns : goal.returns
returns c = partners-at
