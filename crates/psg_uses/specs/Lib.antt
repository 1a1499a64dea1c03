pub mod Naming
pub mod Regions
pub mod ByParts
pub mod Members
pub mod Free
pub mod Linked
pub mod Outward
