use Rattle.std.proofs.Common.{length}
use Rattle.plain_history.proofs.place.+eldest.Given as goal

abbrev pub decreases-eldest : goal.decreases-eldest
decreases-eldest l = length l.run.now
