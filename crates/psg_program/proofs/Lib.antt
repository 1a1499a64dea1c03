pub mod Columns
pub mod Sorting
pub mod Feeds
pub mod SamePieces
pub mod Told
pub mod TokenBytes
mod TokenSpans
pub mod Accepted
pub mod Reasons
pub mod OneFault
