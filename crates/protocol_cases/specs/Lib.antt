pub mod Shelf
pub mod Turns
pub mod Played
pub mod Player
pub mod Difference
pub mod TurnFault
pub mod Verdict
pub mod Case
