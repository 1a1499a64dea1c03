pub mod Noting
pub mod Printing
pub mod Keeping
pub mod Steps
