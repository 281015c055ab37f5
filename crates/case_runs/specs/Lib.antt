-- What a journal tells in short.
pub mod Told
