-- What an answer says is collected.
use Rattle.std.specs.Prelude.{ℕ, Option, Some, None}
use Rattle.std.specs.BTreeSet.{BTreeSet}
use Rattle.plain_edits.specs.Collection.{Collection}

-- the collection at a floor, of the groups of a set, if there is one
abbrev pub collection_said : Option (ℕ × BTreeSet ℕ) → Option Collection
collection_said None = None
collection_said (Some found) = Some (record { floor = found.0; groups = found.1.keys })
