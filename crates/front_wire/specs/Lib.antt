pub mod Members
pub mod Method
pub mod Edits
pub mod Front
pub mod Fair
pub mod Laws
