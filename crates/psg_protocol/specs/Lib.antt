pub mod Frames
pub mod HeaderLines
pub mod Headers
