pub mod MarkedLaws
pub mod PictureLaws
pub mod RowLaws
pub mod ScrollLaws
pub mod SketchSteps
pub mod WindowTie
