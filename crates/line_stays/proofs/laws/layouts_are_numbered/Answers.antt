use Rattle.line_stays.proofs.TouchLemmas.{are_numbered}
use Rattle.line_stays.proofs.laws.layouts_are_numbered.Goals as goal

pub returns : goal.returns
returns c = λ ends_of text draw cuts is. are_numbered ends_of text draw cuts is
