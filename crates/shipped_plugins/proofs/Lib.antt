pub mod MarkLemmas
pub mod TurnLemmas
pub mod PlaceLemmas
pub mod LawLemmas
pub mod StepLemmas
