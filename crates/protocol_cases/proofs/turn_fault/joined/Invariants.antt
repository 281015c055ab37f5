use Rattle.std.proofs.Common.{◌≡◌, ◌++◌, drop}
use Rattle.protocol_cases.specs.Turns.{joined}
use Rattle.protocol_cases.proofs.turn_fault.joined.Given as goal

-- the bytes so far, with those of the rest
abbrev pub invariant-loop-line : goal.invariant-loop-line
invariant-loop-line l = l.bytes.items ++ joined (drop l.line-index l.lines) ≡ joined l.lines
