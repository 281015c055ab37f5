pub mod RopeLemmas
pub mod EditLemmas
pub mod ForCallers
pub mod ScalarLemmas
