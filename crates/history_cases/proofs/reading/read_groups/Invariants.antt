use Rattle.std.proofs.Common.{length}
use Rattle.history_cases.proofs.reading.read_groups.Given as goal

abbrev pub decreases-groups : goal.decreases-groups
decreases-groups l = length l.words.rest.now
