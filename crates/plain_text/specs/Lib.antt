pub mod Numbers
pub mod Text
pub mod Lines
pub mod InputLines
pub mod Woven
