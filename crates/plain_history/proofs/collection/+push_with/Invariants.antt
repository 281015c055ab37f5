use Rattle.std.proofs.Common.{length}
use Rattle.plain_history.proofs.collection.+push_with.Given as goal

abbrev pub decreases-push_with : goal.decreases-push_with
decreases-push_with l = length l.numbers.now
