use Rattle.line_stays.proofs.PartLemmas.{have-parts}
use Rattle.line_stays.proofs.laws.rising_lists_have_parts.Goals as goal

pub returns : goal.returns
returns c = have-parts 0
