pub mod Choice
pub mod Groups
pub mod Inner
pub mod Joined
pub mod Later
pub mod Present
