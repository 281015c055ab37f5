pub mod Drawn
pub mod Parts
pub mod Partners
pub mod Edges
pub mod Change
pub mod Laws
pub mod Inner
