use Rattle.std.proofs.Common.{refl}
use Rattle.line_index.proofs.laws.width_zero_cuts_nothing.Goals as goal

pub returns : goal.returns
returns c = λ tab text. refl
