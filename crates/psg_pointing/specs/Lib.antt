pub mod Pointing
pub mod Walking
pub mod Judging
pub mod Hovering
