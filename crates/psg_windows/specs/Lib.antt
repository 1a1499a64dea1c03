pub mod Resolving
pub mod Moving
pub mod Standing
