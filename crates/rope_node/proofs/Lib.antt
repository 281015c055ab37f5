pub mod TextLemmas
pub mod ForCallers
