pub mod Selection
pub mod Mapped
pub mod Laws
pub mod Inner
