-- A layer whose runs are shared, where it has any.
use Rattle.std.specs.Prelude.{◌≡◌, ◌≢◌, ℕ, length, Option, None, Some}
use Rattle.std.specs.Arc.{arc_value}
use Rattle.std.specs.declared.sync.Arc.{Arc}
use Rattle.plain_edits.specs.Styles.{Layer}
use Rattle.span_styles.specs.Layers.{unstyled}

-- the layer of these runs; with none no character has a style
abbrev pub shared_layer : {Z : Type 0} → ℕ → Option (Arc Layer Z) → Layer
shared_layer len None = unstyled len
shared_layer len (Some runs) = arc_value runs

-- the runs, if there are any, are over so many characters, of which one has a style
abbrev pub IsOver : {Z : Type 0} → ℕ → Option (Arc Layer Z) → Type 0
IsOver len None = Unit {0}
IsOver len (Some runs) = (length (arc_value runs) ≡ len) × (arc_value runs ≢ unstyled len)
