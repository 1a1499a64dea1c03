pub mod Bindings
pub mod Cells
pub mod Inside
pub mod Layout
pub mod Marks
