mod MatchLemmas
mod ByteLemmas
mod FoldLemmas
pub mod ForCallers
