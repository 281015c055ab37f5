use Rattle.std.proofs.Common.{length}
use Rattle.history_cases.proofs.reading.read_delta.Given as goal

abbrev pub decreases-elements : goal.decreases-elements
decreases-elements l = length l.words.rest.now
