pub mod SameLemmas
pub mod NumberLemmas
pub mod LawLemmas
