pub mod OrderLemmas
pub mod PlaceLemmas
mod GapLemmas
pub mod ForCallers
