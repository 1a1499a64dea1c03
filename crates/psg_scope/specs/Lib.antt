pub mod Headers
pub mod Merging
pub mod Spaces
pub mod Sharing
