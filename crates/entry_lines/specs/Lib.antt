pub mod ViewId
pub mod Answer
pub mod Piece
pub mod PluginAnswer
pub mod Notices
pub mod Laws
