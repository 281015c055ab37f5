-- The tokens of a value, which its line is written by.
use Rattle.std.specs.Prelude.{◌≡◌, List, ◌∷◌, ◌++◌}
use Rattle.json.specs.Token.{Token}
use Rattle.serde_json.specs.Data.{Data, null, boolean, number, string, array, object, Items, no_items, item, Members, no_members, member}
use Rattle.serde_json.specs.Written.{number_text}

-- the tokens of a value, of items with the bracket that closes them, and of members with their brace; and then more
abbrev mutual
  pub value_then : Data → List Token → List Token
  value_then null more = Token.null ∷ more
  value_then (boolean b) more = Token.boolean b ∷ more
  value_then (number n) more = Token.number (number_text n) ∷ more
  value_then (string s) more = Token.string s ∷ more
  value_then (array ds) more = Token.begin_array ∷ items_then ds more
  value_then (object ms) more = Token.begin_object ∷ members_then ms more

  pub items_then : Items → List Token → List Token
  items_then no_items more = Token.end_array ∷ more
  items_then (item d ds) more = value_then d (items_then ds more)

  pub members_then : Members → List Token → List Token
  members_then no_members more = Token.end_object ∷ more
  members_then (member k d ms) more = Token.key k ∷ value_then d (members_then ms more)

-- the tokens that were added to old ones, as what they put in front of more
abbrev pub Adds : List Token → List Token → (List Token → List Token) → Type 0
Adds old new then = (more : List Token) → new ++ more ≡ old ++ then more
