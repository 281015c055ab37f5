-- The parts of a note's line, as their tokens in front of more.
use Rattle.std.specs.Prelude.{ℕ, List, [], ◌∷◌, codes, Option, Some, None}
use Rattle.json.specs.Token.{Token}
use Rattle.serde_json.specs.Data.{Data}
use Rattle.json_rpc.specs.Tokens.{value_then, members_then}
use Rattle.view_update.specs.Written.{op_members}

-- the values, as items of a list that goes on
abbrev pub each_then : List Data → List Token → List Token
each_then [] more = more
each_then (d ∷ ds) more = value_then d (each_then ds more)

-- a member, where there is a value for it
abbrev pub member_then : List ℕ → Option Data → List Token → List Token
member_then name None more = more
member_then name (Some d) more = Token.key name ∷ value_then d more

-- the members with which every operation ends, and its brace
abbrev pub op_then : ℕ → List ℕ → List Token → List Token
op_then n op more = members_then (op_members n op) more

-- a note of this method, up to its params
abbrev pub note_begun : List ℕ → List Token → List Token
note_begun method more = Token.begin_object ∷ Token.key (codes "method") ∷ Token.string method ∷ Token.key (codes "params") ∷ more
