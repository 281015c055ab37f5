mod CutLemmas
pub mod ForCallers
mod LawLemmas
mod NextLemmas
mod SameLemmas
mod ToldLemmas
