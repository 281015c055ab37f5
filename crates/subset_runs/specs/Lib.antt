pub mod Subset
pub mod Renumbering
pub mod Runs
pub mod Ranges
pub mod Stretch
pub mod SubsetFault
pub mod Inner
