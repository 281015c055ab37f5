-- Laws for the layers above: what several calls gave, gained and counted.
pub mod Calls
pub mod Parts
mod ShelfLemmas
pub mod ForCallers
