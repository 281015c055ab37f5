pub mod MayForget
pub mod Left
pub mod Forgetful
pub mod Laws
pub mod Rows
