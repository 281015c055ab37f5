pub mod FloorLemmas
pub mod FlagLemmas
pub mod ItemLemmas
pub mod StepLemmas
pub mod StartLemmas
pub mod AllowedLemmas
pub mod ForCallers
