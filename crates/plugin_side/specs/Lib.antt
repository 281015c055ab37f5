pub mod Asking
pub mod Range
pub mod Heard
pub mod Laws
pub mod Inner
