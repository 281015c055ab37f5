pub mod Layers
pub mod Table
pub mod Laws
pub mod Inner
pub mod Rows
pub mod Shared
pub mod Keys
