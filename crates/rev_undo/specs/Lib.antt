pub mod Under
pub mod Start
pub mod Allowed
