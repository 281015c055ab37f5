-- Laws about the commands of lines.
pub mod RowLemmas
pub mod BadLemmas
pub mod CloseLemmas
pub mod ForCallers
