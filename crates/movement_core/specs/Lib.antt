pub mod Places
pub mod Lines
pub mod Words
pub mod Motions
pub mod Laws
pub mod Nearby
pub mod Inner
pub mod Rows
