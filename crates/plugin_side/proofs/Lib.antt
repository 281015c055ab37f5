pub mod Made
pub mod Plain
pub mod ReadBack
mod AskedLemmas
pub mod Hears
pub mod LineFeeds
pub mod TurnLines
pub mod ForCallers
