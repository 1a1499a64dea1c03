pub mod Heads
pub mod Faults
pub mod Keeping
