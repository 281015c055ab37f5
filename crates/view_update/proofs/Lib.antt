pub mod Plain
pub mod Made
pub mod Joined
pub mod ReadBack
pub mod Lines
pub mod ForCallers
