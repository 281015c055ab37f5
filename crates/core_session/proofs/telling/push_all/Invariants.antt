use Rattle.std.proofs.Common.{◌≡◌, ◌++◌, drop}
use Rattle.core_session.proofs.telling.push_all.Given as goal

abbrev pub invariant-loop-line : goal.invariant-loop-line
invariant-loop-line l = l.lines ++ drop l.line-index l.line-items ≡ l.initial.lines ++ l.more
