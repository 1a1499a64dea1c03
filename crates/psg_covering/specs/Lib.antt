pub mod Choices
pub mod Slots
pub mod Fronts
pub mod Index
pub mod Pairs
pub mod Rows
pub mod Work
