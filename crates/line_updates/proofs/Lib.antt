pub mod AskedLemmas
pub mod NextLemmas
pub mod NumberLemmas
pub mod PlanLemmas
pub mod ForCallers
