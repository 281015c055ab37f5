-- Laws about the table.
pub mod Past
