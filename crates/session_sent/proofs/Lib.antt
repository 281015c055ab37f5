mod SendLemmas
pub mod ForCallers
