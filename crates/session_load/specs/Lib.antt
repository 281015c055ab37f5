-- What is counted, by which kinds of lines, and what the words ask.
pub mod Count
pub mod Kind
pub mod Table
pub mod Words
