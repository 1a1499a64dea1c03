pub mod Classes
pub mod Splits
pub mod Tokens
pub mod Faults
pub mod Pieces
