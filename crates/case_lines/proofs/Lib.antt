pub mod ForCallers
mod QuotedLemmas
