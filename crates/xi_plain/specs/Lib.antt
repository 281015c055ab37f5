pub mod Acts
pub mod Reply
pub mod Journal
pub mod Chunk
pub mod Room
