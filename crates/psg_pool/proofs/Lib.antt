pub mod Buffer
pub mod Changes
pub mod Following
pub mod Links
pub mod Places
pub mod Held
pub mod Laws
pub mod Soundness
