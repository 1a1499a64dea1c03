pub mod Asked
pub mod Programs
pub mod Putting
pub mod Told
