mod LineLemmas
mod PlayedLemmas
mod TapeLemmas
mod WalkLemmas
mod LengthLemmas
pub mod ForCallers
