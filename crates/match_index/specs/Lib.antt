pub mod Found
pub mod Changed
pub mod Strides
pub mod Inner
pub mod Edited
pub mod Laws
