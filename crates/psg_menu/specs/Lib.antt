pub mod Menus
pub mod Answers
pub mod Trials
pub mod Sharing
