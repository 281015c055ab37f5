pub mod Crowd
pub mod Desk
