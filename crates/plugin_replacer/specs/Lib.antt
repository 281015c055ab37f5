pub mod Replacing
pub mod Turns
