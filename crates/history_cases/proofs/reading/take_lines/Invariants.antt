use Rattle.std.proofs.Common.{length}
use Rattle.history_cases.proofs.reading.take_lines.Given as goal

abbrev pub decreases-loop-rest : goal.decreases-loop-rest
decreases-loop-rest l = length l.rest
