pub mod Acts
pub mod Completing
pub mod Rows
pub mod Prompts
pub mod Running
