pub mod Laws
pub mod Rows
pub mod HistoryRows
pub mod HistoryLaws
pub mod ViewLaws
pub mod ViewRows
