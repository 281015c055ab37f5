pub mod Post
pub mod Crew
