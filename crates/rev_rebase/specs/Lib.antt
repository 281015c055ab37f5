pub mod Until
pub mod Rebase
pub mod Inner
