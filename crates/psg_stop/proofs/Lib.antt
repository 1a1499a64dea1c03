pub mod Endable
pub mod Known
pub mod Asked
pub mod Rows
pub mod Told
pub mod Runs
