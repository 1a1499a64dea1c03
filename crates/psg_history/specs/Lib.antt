pub mod Undone
pub mod Versions
