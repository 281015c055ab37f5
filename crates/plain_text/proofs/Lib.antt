pub mod callers
mod CountLemmas
