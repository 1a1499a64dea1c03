pub mod Faces
pub mod Leaves
pub mod OfKeys
pub mod Ranges
pub mod Repairs
pub mod Spots
pub mod Table
pub mod Views
