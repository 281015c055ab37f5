use Rattle.line_break.proofs.TestLemmas.{AreBreaks-same, breaks_of-pass}
use Rattle.line_break.proofs.laws.breaks_are_one.Goals as goal

pub returns : goal.returns
returns c = record { pass = breaks_of-pass; alone = AreBreaks-same }
