pub mod Forms
pub mod Laws
pub mod Lines
pub mod Summary
