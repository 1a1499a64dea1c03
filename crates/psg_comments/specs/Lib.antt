pub mod Fitting
pub mod Finding
pub mod Blanking
pub mod Steps
