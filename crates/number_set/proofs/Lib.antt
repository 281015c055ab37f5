pub mod SetLemmas
pub mod SearchLemmas
pub mod FlipLemmas
pub mod ForCallers
