pub mod Forms
pub mod Words
pub mod Found
pub mod Keywords
pub mod Reading
pub mod Productions
pub mod Lines
pub mod Script
