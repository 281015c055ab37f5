-- What methods there are.
pub mod Members
pub mod Table
