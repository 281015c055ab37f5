-- What is wrong with the turns of plugins.
use Rattle.std.specs.Prelude.{◌≡◌, ℕ, ◌+◌, ◌&&◌, false, if◌then◌else◌, List, [], ◌∷◌, Option, Some, None}
use Rattle.std.specs.List.{AllByRecursion}
use Rattle.std.specs.Str.{bytes_eq, encode_utf8_all}
use Rattle.case_scripts.specs.declared.turns.TurnSaid.{TurnSaid}
use Rattle.protocol_cases.specs.declared.verdict.Fault.{Fault}
use Rattle.protocol_cases.specs.declared.verdict.Fault.TheVariants.{Differs, Gave}
use Rattle.protocol_cases.specs.declared.verdict.Place.TheVariants.{Turn}
use Rattle.protocol_cases.specs.Played.{Played}
use Rattle.case_scripts.specs.Shelf.{same_truth}
use Rattle.case_scripts.specs.Turns.{turns_of}
use Rattle.protocol_cases.specs.Turns.{joined}
use Rattle.protocol_cases.specs.Difference.{bytes_fault, first_of}

-- what a plugin was given in a turn
abbrev pub given_fault : ℕ → ℕ → TurnSaid → TurnSaid → Option Fault
given_fault plugin turn said had = bytes_fault (Turn plugin turn) (joined said.given) (joined had.given)

-- what it gave back, and whether it was done
abbrev pub gave_fault : ℕ → ℕ → TurnSaid → TurnSaid → Option Fault
gave_fault plugin turn said had =
    if bytes_eq (joined said.gives) (joined had.gives) && same_truth said.done had.done then None else Some (Gave plugin turn)

-- one turn
abbrev pub one_fault : ℕ → ℕ → TurnSaid → TurnSaid → Option Fault
one_fault plugin turn said had = first_of (given_fault plugin turn said had) (gave_fault plugin turn said had)

-- a turn that was not had, or of which nothing is said, by its first line
abbrev pub first_text : List (List ℕ) → List ℕ
first_text [] = []
first_text (text ∷ texts) = encode_utf8_all text

abbrev pub missing_turn : ℕ → ℕ → TurnSaid → Fault
missing_turn plugin turn said = Differs (Turn plugin turn) (record { line = 1; expected = first_text said.given; got = [] })

abbrev pub further_turn : ℕ → ℕ → TurnSaid → Fault
further_turn plugin turn had = Differs (Turn plugin turn) (record { line = 1; expected = []; got = first_text had.given })

-- where one of two lists of turns has ended
abbrev pub rest_fault : ℕ → ℕ → Option TurnSaid → Option TurnSaid → Option Fault
rest_fault plugin turn None None = None
rest_fault plugin turn (Some said) had = Some (missing_turn plugin turn said)
rest_fault plugin turn None (Some had) = Some (further_turn plugin turn had)

-- TURNS, one by one, the first of which has this number
abbrev pub turns_fault : ℕ → ℕ → List TurnSaid → List TurnSaid → Option Fault
turns_fault plugin turn [] [] = None
turns_fault plugin turn (said ∷ more) [] = Some (missing_turn plugin turn said)
turns_fault plugin turn [] (had ∷ others) = Some (further_turn plugin turn had)
turns_fault plugin turn (said ∷ more) (had ∷ others) = first_of (one_fault plugin turn said had) (turns_fault plugin (turn + 1) more others)

-- what is wrong first with the turns of plugins, the first of which has this number
abbrev pub plugins_fault : List TurnSaid → ℕ → List Played → Option Fault
plugins_fault turns plugin [] = None
plugins_fault turns plugin (played ∷ others) =
    first_of (turns_fault plugin 1 (turns_of turns plugin) played.had) (plugins_fault turns (plugin + 1) others)

-- each of them tells its turns
abbrev pub AllTold : List Played → Type 0
AllTold players = AllByRecursion (λ (played : Played). played.lost ≡ false) players
