pub mod Runs
pub mod InTime
pub mod Summary
pub mod Storm
pub mod Forms
pub mod InnerThreads
pub mod InnerStorm
