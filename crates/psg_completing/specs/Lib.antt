pub mod Around
pub mod Fillings
pub mod Fitted
pub mod Wanted
pub mod Samples
pub mod Naming
pub mod Offering
pub mod Each
