pub mod Pieces
pub mod Updates
pub mod Texts
pub mod Answers
pub mod ViewIds
pub mod ForCallers
