-- What a script says of the turns of plugins.
use Rattle.std.specs.Prelude.{ℕ, ◌+◌, ◌==◌, ◌&&◌, nat_le, max, Bool, true, false, if◌then◌else◌, List, [], ◌∷◌, ◌++◌, Option, Some, None, option_and_then}
use Rattle.std.specs.List.{filter}
use Rattle.case_scripts.specs.declared.turns.TurnSaid.{TurnSaid}
use Rattle.case_scripts.specs.declared.turns.TurnsSaid.{TurnsSaid}
use Rattle.case_scripts.specs.Shelf.{text_in}
use Rattle.case_scripts.specs.Said.{Mark, given, gives, ends, done}

-- no plugin
abbrev pub no_turns : TurnsSaid
no_turns = record { count = 0; turns = []; begun = None }

-- whether a turn of this plugin may begin: it is the next one at most, and there are at most 64
abbrev pub may_begin : ℕ → ℕ → Bool
may_begin count caller = nat_le 1 caller && (nat_le caller (count + 1) && nat_le caller 64)

-- a turn of which this is the first line
abbrev pub first_of_turn : ℕ → List ℕ → TurnSaid
first_of_turn caller line = record { caller = caller; given = line ∷ []; gives = []; done = false }

-- a turn begins with this line
abbrev pub with_begun : TurnsSaid → ℕ → List ℕ → TurnsSaid
with_begun said caller line = record said { count = max said.count caller; begun = Some (first_of_turn caller line) }

-- it goes on so
abbrev pub going_on : TurnsSaid → TurnSaid → TurnsSaid
going_on said turn = record said { begun = Some turn }

-- there is nothing
abbrev pub is_empty : {A : Type 0} → List A → Bool
is_empty [] = true
is_empty (x ∷ xs) = false

-- one line more that the plugin is given, which may be the first of a turn, and comes before all that it gives
abbrev pub with_given : TurnsSaid → Option TurnSaid → ℕ → List ℕ → Option TurnsSaid
with_given said None caller line = if may_begin said.count caller then Some (with_begun said caller line) else None
with_given said (Some turn) caller line =
    if turn.caller == caller && is_empty turn.gives then Some (going_on said (record turn { given = turn.given ++ line ∷ [] })) else None

-- one line more that it gives
abbrev pub with_gives : TurnsSaid → Option TurnSaid → ℕ → List ℕ → Option TurnsSaid
with_gives said None caller line = None
with_gives said (Some turn) caller line =
    if turn.caller == caller then Some (going_on said (record turn { gives = turn.gives ++ line ∷ [] })) else None

-- the end of the turn, and whether the plugin is done then
abbrev pub with_end : TurnsSaid → Option TurnSaid → ℕ → Bool → Option TurnsSaid
with_end said None caller is_done = None
with_end said (Some turn) caller is_done =
    if turn.caller == caller then Some (record said { turns = said.turns ++ record turn { done = is_done } ∷ []; begun = None }) else None

-- WITH A LINE OF A TURN
abbrev pub with_mark : TurnsSaid → ℕ → Mark → Option TurnsSaid
with_mark said caller (given text) = option_and_then (with_given said said.begun caller) (text_in text)
with_mark said caller (gives text) = option_and_then (with_gives said said.begun caller) (text_in text)
with_mark said caller ends = with_end said said.begun caller false
with_mark said caller done = with_end said said.begun caller true

-- THE TURNS of one plugin, in order
abbrev pub turns_of : List TurnSaid → ℕ → List TurnSaid
turns_of turns caller = filter (λ (turn : TurnSaid). turn.caller == caller) turns
