mod DrawLemmas
pub mod ForCallers
mod PushLemmas
mod ReadLemmas
mod WholeLemmas
mod LineLemmas
mod SummaryLemmas
