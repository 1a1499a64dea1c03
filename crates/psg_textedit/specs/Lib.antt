pub mod Typing
pub mod Places
pub mod Lines
pub mod Jobs
pub mod Regions
pub mod Surroundings
pub mod Laws
