pub mod RowLemmas
pub mod SumLemmas
pub mod PlaceLemmas
pub mod CutLemmas
pub mod PatchLemmas
pub mod JoinLemmas
pub mod ForCallers
