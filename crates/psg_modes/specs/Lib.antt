pub mod Pages
pub mod Turning
pub mod Wrong
