pub mod Cuts
pub mod Sizes
pub mod Whole
pub mod Index
pub mod Inner
pub mod How
pub mod Laws
pub mod Rows
