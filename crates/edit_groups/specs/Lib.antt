pub mod Typing
pub mod Grouping
pub mod Sessions
