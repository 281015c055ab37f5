use Rattle.std.proofs.Common.{◌≡◌, ◌+◌, ◌-◌, ◌≤◌, drop, length}
use Rattle.protocol_cases.specs.TurnFault.{turns_fault}
use Rattle.protocol_cases.proofs.turn_fault.turns_fault.Given as goal

-- no turn was wrong so far
abbrev pub invariant-loop-at : goal.invariant-loop-at
invariant-loop-at l = record {
  rest : turns_fault l.plugin (l.at + 1) (drop l.at l.said) (drop l.at l.had) ≡ turns_fault l.plugin 1 l.said l.had;
  few : l.at ≤ length l.said;
}

abbrev pub decreases-loop-at : goal.decreases-loop-at
decreases-loop-at l = length l.said - l.at
