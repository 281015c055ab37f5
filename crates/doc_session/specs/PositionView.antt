-- The place of a caret, as the front end is told it.
pub use Rattle.doc_layout.specs.PositionView.{position_view}
