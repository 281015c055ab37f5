pub mod Rendered
pub mod Laws
pub mod Inner
