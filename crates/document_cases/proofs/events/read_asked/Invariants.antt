use Rattle.std.proofs.Common.{length}
use Rattle.document_cases.proofs.events.read_asked.Given as goal

abbrev pub decreases-words : goal.decreases-words
decreases-words l = length l.words.rest.now
