-- What a link is, and what turns over it mean.
pub mod Turns
pub mod Link
pub mod Cut
pub mod Pulling
pub mod Pushing
pub mod Turning
pub mod MemLink
pub mod StdLink
pub mod Laws
