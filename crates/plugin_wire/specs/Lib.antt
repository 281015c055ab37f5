pub mod Told
pub mod Shapes
pub mod Hearing
pub mod Fair
pub mod Laws
pub mod Methods
pub mod Asked
pub mod FairAsk
