use Rattle.std.proofs.Common.{◌≡◌, ◌++◌, drop}
use Rattle.protocol_cases.proofs.player.copied.Given as goal

abbrev pub invariant-loop-line : goal.invariant-loop-line
invariant-loop-line l = l.made ++ drop l.line-index l.lines ≡ l.lines
