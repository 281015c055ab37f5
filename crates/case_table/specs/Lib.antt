-- What a text of names means.
pub mod Table
pub mod Places
