pub mod Boundaries
pub mod Columns
pub mod Plain
pub mod Walk
pub mod Classes
pub mod Laws
pub mod Rows
