pub mod Screen
pub mod View
pub mod SameLayout
pub mod Plan
pub mod Touched
