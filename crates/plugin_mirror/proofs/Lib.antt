mod AskLemmas
mod BookLemmas
mod LeafLemmas
mod TimeLemmas
mod TellerLemmas
mod RunLemmas
pub mod ForCallers
