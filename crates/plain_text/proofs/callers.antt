-- What other crates may cite of texts, lists and the lines of an input.
pub mod ListLemmas
pub mod TextLemmas
pub mod InputLemmas
pub mod PlaceLemmas
pub mod NumberLemmas
