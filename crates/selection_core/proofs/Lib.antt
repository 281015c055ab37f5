pub mod MergeLemmas
pub mod OrderLemmas
pub mod GapLemmas
pub mod ChangeLemmas
pub mod ForCallers
