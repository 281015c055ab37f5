-- The layout of a text with the carets of regions, and the place of a gap on it.
pub use Rattle.doc_layout.specs.Layout.{layout_line, layout, Position, position_of}
