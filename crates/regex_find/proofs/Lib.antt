mod SearchLemmas
mod ReplaceLemmas
pub mod ForCallers
