pub mod Spans
pub mod Triples
pub mod Places
pub mod Rows
