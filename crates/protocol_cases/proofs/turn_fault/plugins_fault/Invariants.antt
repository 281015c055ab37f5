use Rattle.std.proofs.Common.{◌≡◌, ◌+◌, drop}
use Rattle.protocol_cases.specs.TurnFault.{plugins_fault}
use Rattle.protocol_cases.proofs.turn_fault.plugins_fault.Given as goal

-- no plugin was wrong so far
abbrev pub invariant-loop-player : goal.invariant-loop-player
invariant-loop-player l = record {
  rest : plugins_fault l.turns l.number (drop l.player-index l.players) ≡ plugins_fault l.turns 1 l.players;
  number : l.number ≡ l.player-index + 1;
}
