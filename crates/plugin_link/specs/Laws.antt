-- What turns of bytes mean, and what many turns over a link give.
use Rattle.std.specs.Prelude.{◌≡◌, ℕ, false, List, [], ◌∷◌, ◌++◌, map, Some, None}
use Rattle.std.specs.List.{AllByRecursion, flat_map}
use Rattle.outside.specs.Sink.{Gains}
use Rattle.plugin_link.specs.Turns.{IsLine, framed, turns, rest_of}
use Rattle.plugin_link.specs.Turning.{LinkStanding, HasTurned, to_come}

-- the turns, each with its LFs, are the bytes up to the last empty line, and what stands after that has no turn
abbrev pub TurnsJoin : Type 0
TurnsJoin =
    (bytes : List ℕ) → AllByRecursion (AllByRecursion IsLine) (turns bytes) × (flat_map framed (turns bytes) ++ rest_of bytes ≡ bytes) ×
    (turns (rest_of bytes) ≡ [])

-- bytes that come in two pieces have the turns of both together
abbrev pub TurnsGoOn : Type 0
TurnsGoOn = (front back : List ℕ) → turns (front ++ back) ≡ turns front ++ turns (rest_of front ++ back)

-- lines and their LFs are the first turn, whatever comes
abbrev pub ATurnIsFirst : Type 0
ATurnIsFirst = (lines : List (List ℕ)) (rest : List ℕ) → AllByRecursion IsLine lines → turns (framed lines ++ rest) ≡ lines ∷ turns rest

-- turns one after the other, none of them done, each with the lines that it was handed and gave
abbrev pub AreTurns : LinkStanding → LinkStanding → List (List (List ℕ) × List (List ℕ)) → Type 0
AreTurns old new [] = new ≡ old
AreTurns old new (turn ∷ more) = (next : LinkStanding) × HasTurned old next turn.0 turn.1 false × AreTurns next new more

-- MANY TURNS over a link that tells what it has left: what they gave are the first turns of what was to come, in order, and they put the
-- lines that they were handed
abbrev pub ManyTurns : Type 0
ManyTurns =
    (old new : LinkStanding) (had : List (List (List ℕ) × List (List ℕ))) (bytes : List ℕ) → old.end ≡ None → AreTurns old new had →
    to_come old ≡ Some bytes →
    ((rest : List ℕ) × (to_come new ≡ Some rest) × (turns bytes ≡ map (λ turn. turn.1) had ++ turns rest)) ×
    Gains old.told.held new.told.held (flat_map (λ turn. framed turn.0) had)
