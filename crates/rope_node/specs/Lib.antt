pub mod Lengths
pub mod Node
