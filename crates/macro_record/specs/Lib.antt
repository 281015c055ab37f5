-- What a tape is, and what is played of it.
pub mod Played
pub mod Tape
pub mod Laws
