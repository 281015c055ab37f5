mod TailLemmas
mod ColumnLemmas
mod EndLemmas
mod ClusterLemmas
mod TestLemmas
mod PieceLemmas
mod LineEndLemmas
mod LookLemmas
mod PlainEndLemmas
pub mod ForCallers
