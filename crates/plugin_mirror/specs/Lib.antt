pub mod Leaf
pub mod Book
pub mod Asks
pub mod Teller
pub mod Laws
