pub mod Queue
pub mod Journal
pub mod Shelf
pub mod Steps
pub mod Turns
pub mod Ends
