-- What lines ask, what calls come to, and what is printed of them.
pub mod Call
pub mod Files
pub mod Said
pub mod Comes
pub mod Stage
