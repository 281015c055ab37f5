pub mod Numbers
pub mod InMemory
pub mod Laws
