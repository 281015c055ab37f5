pub mod StackLemmas
pub mod LawLemmas
