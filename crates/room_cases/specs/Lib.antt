pub mod Tally
pub mod Receipts
pub mod Crew
