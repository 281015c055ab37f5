-- What the sources and sinks mean.
pub mod Faults
pub mod Source
pub mod Sink
pub mod Schedule
pub mod MemSource
pub mod CalmSink
pub mod MemSink
pub mod Shelf
pub mod Paths
pub mod MemShelf
pub mod ShelfLaws
