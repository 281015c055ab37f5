-- The place of a caret, as the front end is told it, is a place on the layout.
use Rattle.std.specs.Prelude.{ℕ}
use Rattle.doc_layout.specs.Layout.{Position}

abbrev pub position_view : ℕ × ℕ → Position
position_view place = record { line = place.0; col = place.1 }
