pub mod Pairing
pub mod Rows
pub mod Moving
pub mod Rules
pub mod Writing
