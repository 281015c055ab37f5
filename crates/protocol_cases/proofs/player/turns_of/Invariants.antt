use Rattle.std.proofs.Common.{◌≡◌, ◌++◌, drop}
use Rattle.case_scripts.specs.Turns.{turns_of}
use Rattle.protocol_cases.proofs.player.turns_of.Given as goal

-- the turns so far, with those of the rest
abbrev pub invariant-loop-turn : goal.invariant-loop-turn
invariant-loop-turn l = l.made ++ turns_of (drop l.turn-index l.turns) l.caller ≡ turns_of l.turns l.caller
