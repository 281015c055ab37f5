pub mod Fault
pub mod Proper
pub mod Line
pub mod Tokens
pub mod Request
pub mod Response
pub mod Laws
pub mod Refusal
