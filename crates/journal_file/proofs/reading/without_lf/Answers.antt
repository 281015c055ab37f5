use Rattle.std.proofs.Common.{arith}
use Rattle.std.proofs.lemmas.Grind.{common_steps}
use Rattle.json_rpc.specs.Line.{without_lf}
use Rattle.journal_file.proofs.reading.without_lf.Goals as goal

pub returns-in-Some : goal.returns-in-Some
unfolding without_lf
returns-in-Some c = grind (arith, common_steps)

pub returns-in_default : goal.returns-in_default
unfolding without_lf
returns-in_default c = grind (arith, common_steps)

pub returns-in_default-2 : goal.returns-in_default-2
unfolding without_lf
returns-in_default-2 c = grind (arith, common_steps)
