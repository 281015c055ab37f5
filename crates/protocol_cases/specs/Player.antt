-- The plugins of a script.
use Rattle.std.specs.Prelude.{ℕ, zero, suc, ◌+◌, false, List, [], ◌∷◌, length, slice_get, Option, Some, None}
use Rattle.plugin_session.specs.declared.plugin.Turn.{Turn}
use Rattle.case_scripts.specs.declared.turns.TurnSaid.{TurnSaid}
use Rattle.protocol_cases.specs.Played.{Played}
use Rattle.case_scripts.specs.Turns.{turns_of}

-- what is given in a turn of which this is said, if anything is
abbrev pub reply_of : Option TurnSaid → Turn
reply_of None = record { lines = []; done = false }
reply_of (Some turn) = record { lines = turn.gives; done = turn.done }

-- WHAT IT GIVES in its next turn: what is said of this turn, and nothing once the turns are used up
abbrev pub next_reply : Played → Turn
next_reply played = reply_of (slice_get played.turns (length played.had))

-- the plugin of this number, before its first turn
abbrev pub player_of : List TurnSaid → ℕ → Played
player_of turns caller = record { caller = caller; turns = turns_of turns caller; had = []; lost = false }

-- THE PLUGINS of a script: so many, the first of which has this number
abbrev pub players_of : List TurnSaid → ℕ → ℕ → List Played
players_of turns number zero = []
players_of turns number (suc count) = player_of turns number ∷ players_of turns (number + 1) count
