pub mod Written
pub mod Parts
pub mod Reading
pub mod Fair
pub mod Notes
pub mod Laws
