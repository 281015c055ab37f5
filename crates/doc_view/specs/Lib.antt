pub mod View
pub mod Search
pub mod Moved
pub mod Told
pub mod Idle
pub mod Looking
pub mod Front
pub mod Inner
