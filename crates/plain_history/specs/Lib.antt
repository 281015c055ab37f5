pub mod Views
pub mod UnitEdit
pub mod Inner
