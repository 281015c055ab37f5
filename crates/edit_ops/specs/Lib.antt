pub mod Replacements
pub mod Points
pub mod Regions
pub mod Commands
pub mod Laws
pub mod Inner
pub mod Rows
