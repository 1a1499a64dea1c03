pub mod CharLaws
pub mod NameLaws
pub mod NextLaws
