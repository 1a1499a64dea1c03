pub mod Cells
pub mod Drawing
pub mod Orders
pub mod Sketching
pub mod Terminal
pub mod Walking
