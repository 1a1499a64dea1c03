pub mod Cases
pub mod Keeping
pub mod Walks
pub mod Places
