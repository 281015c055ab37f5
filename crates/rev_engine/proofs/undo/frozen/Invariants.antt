use Rattle.std.proofs.Common.{drop}
use Rattle.rev_engine.proofs.FrozenLemmas.{AreAhead}
use Rattle.rev_engine.proofs.undo.frozen.Given as goal

abbrev pub invariant-loop-group : goal.invariant-loop-group
invariant-loop-group l = AreAhead l.revs l.groups (drop l.group-index l.groups)
