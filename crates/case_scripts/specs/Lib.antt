-- What the lines of a script say, and what they say together.
pub mod Said
pub mod Stream
pub mod Shelf
pub mod Turns
pub mod Script
pub mod Inner
