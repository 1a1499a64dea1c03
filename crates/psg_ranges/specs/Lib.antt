pub mod Brackets
pub mod Forests
pub mod Walking
pub mod Owns
