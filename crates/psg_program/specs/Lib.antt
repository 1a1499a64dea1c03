pub mod Places
pub mod Decoding
pub mod Expected
pub mod Messages
pub mod Programs
pub mod Formatted
pub mod Compared
pub mod OneAnswer
