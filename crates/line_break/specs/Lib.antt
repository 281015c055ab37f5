pub mod Breaks
pub mod Test
pub mod Pieces
pub mod LineEnds
pub mod Laws
pub mod Rows
pub mod Inner
pub mod Plain
