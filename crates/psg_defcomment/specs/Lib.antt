pub mod Naming
pub mod Plain
pub mod Reading
pub mod Refusals
pub mod Writing
