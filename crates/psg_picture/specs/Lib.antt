pub mod Marked
pub mod Pictures
pub mod Rows
pub mod Scrolling
