pub mod Made
pub mod Plain
pub mod ReadBack
pub mod Notices
pub mod MethodRows
pub mod Each
pub mod FairAsks
pub mod ForCallers
