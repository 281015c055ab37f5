mod EditLemmas
mod TrueLemmas
mod OnceLemmas
