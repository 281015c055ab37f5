pub mod Refused
pub mod Places
pub mod Read
pub mod Asked
pub mod Marks
pub mod Rows
