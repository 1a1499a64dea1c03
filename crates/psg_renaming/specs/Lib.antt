pub mod Occurring
pub mod NewNames
