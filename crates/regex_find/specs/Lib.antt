pub mod Spots
pub mod Pattern
pub mod Replaced
pub mod Inner
pub mod SpotLaws
