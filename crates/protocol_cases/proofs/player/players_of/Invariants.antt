use Rattle.std.proofs.Common.{◌≡◌, ◌+◌, ◌-◌, ◌++◌}
use Rattle.std.specs.Prelude.{vec_len}
use Rattle.protocol_cases.specs.Player.{players_of}
use Rattle.protocol_cases.proofs.player.players_of.Given as goal

-- the plugins so far, with those that are to come
abbrev pub invariant-loop-at : goal.invariant-loop-at
invariant-loop-at l = record {
  players : l.players.items ++ players_of l.turns (l.at + 1) (l.count - l.at) ≡ players_of l.turns 1 l.count;
  count : vec_len l.players ≡ l.at;
}
