pub mod MarkLemmas
pub mod PieceLemmas
pub mod CarriedLemmas
pub mod GapLemmas
pub mod PlacedLemmas
pub mod SinceLemmas
pub mod MovedLemmas
pub mod ForCallers
