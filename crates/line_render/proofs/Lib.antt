mod OrderLemmas
mod CaretLemmas
mod CursorLemmas
pub mod RunLemmas
mod SelectedLemmas
mod CutLemmas
mod FeedLemmas
pub mod LawLemmas
pub mod ForCallers
