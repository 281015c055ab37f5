pub mod OffsetLemmas
pub mod PlainLemmas
pub mod GapLemmas
pub mod ForCallers
