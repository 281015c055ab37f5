pub mod Filed
pub mod Lined
