pub mod Found
pub mod Layout
pub mod PositionView
pub mod Told
pub mod Changed
pub mod Laws
pub mod Rows
pub mod Inner
