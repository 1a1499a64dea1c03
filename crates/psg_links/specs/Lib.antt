pub mod Names
pub mod Links
pub mod Around
pub mod Linking
pub mod Spots
pub mod Renaming
pub mod Agreeing
