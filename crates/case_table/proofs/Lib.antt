-- Laws about tables of names.
pub mod Pieces
pub mod Wrong
pub mod Laws
pub mod Reading
pub mod Standing
pub mod Search
