-- What replaying a journal means.
pub mod Follow
pub mod Notes
pub mod Replay
pub mod Inner
pub mod Laws
