pub mod Turns
pub mod Marks
pub mod Todo
pub mod Storm
pub mod Laws
