-- Turns that plugins had, beside those that a script says.
use Rattle.std.specs.Prelude.{◌≡◌, ℕ, ◌+◌, Bool, List, [], ◌∷◌, ◌++◌, map, ⊤}
use Rattle.std.specs.Str.{encode_utf8_all}
use Rattle.plugin_session.specs.Turn.{Turned}
use Rattle.case_scripts.specs.declared.turns.TurnSaid.{TurnSaid}
use Rattle.case_scripts.specs.Turns.{turns_of}
use Rattle.protocol_cases.specs.Played.{Played}

-- as a plugin tells it
abbrev pub turned_of : TurnSaid → Turned
turned_of turn = record { given = turn.given; back = turn.gives; done = turn.done }

-- lines, each with its LF, in UTF-8
abbrev pub joined : List (List ℕ) → List ℕ
joined [] = []
joined (line ∷ lines) = encode_utf8_all line ++ 10 ∷ joined lines

-- a turn as its lines: those that were given, those that were given back, and whether the plugin was done
pub record TurnLines : Type 0 where
  pub given : List ℕ
  pub back : List ℕ
  pub done : Bool

abbrev pub lines_in : TurnSaid → TurnLines
lines_in turn = record { given = joined turn.given; back = joined turn.gives; done = turn.done }

-- a plugin had the turns that are said of it
abbrev pub HadTurns : List TurnSaid → List TurnSaid → Type 0
HadTurns said had = map lines_in had ≡ map lines_in said

-- plugins, the first of which has this number, had those that are said of each
abbrev pub HadAll : List TurnSaid → ℕ → List Played → Type 0
HadAll turns number [] = ⊤
HadAll turns number (played ∷ others) = HadTurns (turns_of turns number) played.had × HadAll turns (number + 1) others
