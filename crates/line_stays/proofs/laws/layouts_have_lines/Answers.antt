use Rattle.line_stays.proofs.TouchLemmas.{has_lines}
use Rattle.line_stays.proofs.laws.layouts_have_lines.Goals as goal

pub returns : goal.returns
returns c = λ ends_of text draw cuts is. has_lines ends_of text draw cuts is
