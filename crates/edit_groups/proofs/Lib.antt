pub mod ForgetLemmas
pub mod LeastLemmas
pub mod ForCallers
