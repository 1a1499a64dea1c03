pub mod LeftLaws
pub mod PenLaws
pub mod RowLaws
pub mod SketchLaws
pub mod TerminalLaws
pub mod WalkLaws
