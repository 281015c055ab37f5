-- A part of a list, replaced.
use Rattle.std.specs.Prelude.{ℕ, List, ◌++◌, take, drop}

-- the items with those from one index up to another replaced
abbrev pub replaced : {Item : Type 0} → List Item → ℕ → ℕ → List Item → List Item
replaced items from to others = take from items ++ (others ++ drop to items)
