pub mod Fronts
pub mod Meetings
pub mod Walks
pub mod Cuts
pub mod Filling
pub mod Fits
