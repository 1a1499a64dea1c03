pub mod Faults
pub mod Files
pub mod Inputs
pub mod Memory
pub mod Pieces
pub mod Places
pub mod Sinks
